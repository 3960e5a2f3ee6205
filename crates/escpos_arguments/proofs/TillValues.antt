-- The values of a till's task.
use Rattle.std.proofs.Common.{◌≡◌, ◌≢◌, ◌∙◌, ℕ, List, Option, Some, None, Result, Ok, Err, refl, sym, ap, subst, codes, arith}
use Rattle.std.specs.Prelude.{◌<◌, ◌≤◌, IfSome, IsSomeAnd, get_or}
use Rattle.clap.specs.Words.{Row, first_of, one_of}
use Rattle.escpos_arguments.specs.declared.arguments.TheConstants.{OPENINGS, MOST_OPENINGS, PATIENCE}
use Rattle.escpos_arguments.specs.Arguments.{IsNumberOr, IsWait}
use Rattle.escpos_arguments.specs.ClapAnswers.{IsNumberIn}
use Rattle.escpos_arguments.proofs.TaskValues.{no_error, number_in}
use Rattle.escpos_arguments.specs.TillArguments.{AsksTillBy, IsTillInRange}
use Rattle.escpos_till.specs.Copy.{IsCopyText}
use Rattle.escpos_till.specs.Keys.{IsKey}
use Rattle.escpos_addresses.specs.Address.{IsAddress}
use Rattle.escpos_addresses.specs.declared.address.Address.{Address}
use Rattle.escpos_jobs.specs.declared.task.NoTask.{NoTask}
use Rattle.escpos_till_jobs.specs.declared.deliver.Delivery.{Delivery}
use Rattle.escpos_till_jobs.specs.declared.task.TillTask.{TillTask}
use Rattle.escpos_till_jobs.specs.declared.task.TillTask.TheVariants.{Queue, QueueAgain, QueueRaw, Deliver, Cancel, Renew, List as listing}

abbrev head : List ℕ → ℕ
head bytes = get_or bytes 0 0

-- An address that is asked for is taken.
pub taken_address : (rows : List Row) (task : TillTask) (r : Result Address NoTask) (why : NoTask) → AsksTillBy (codes "deliver") rows task → r ≡ Err why
    → ((a : Address) → IsSomeAnd (first_of (codes "address") rows) (λ text. IsAddress text a) → r ≡ Ok a) → ⊥
taken_address rows (Queue ledger options key) r why asks is taken = let bad = asks.0 in absurd cc
taken_address rows (QueueRaw ledger width key) r why asks is taken = let bad = asks.0 in absurd cc
taken_address rows (QueueAgain ledger number) r why asks is taken = let bad = asks.0 in absurd cc
taken_address rows (Deliver ledger d wait) r why asks is taken =
    let (name, path, address, openings, patience, copy, is_wait) = asks in
    no_error r d.address why (taken d.address address) is
taken_address rows (Cancel ledger number) r why asks is taken = let bad = asks.0 in absurd cc
taken_address rows (Renew ledger new) r why asks is taken = let bad = asks.0 in absurd cc
taken_address rows (listing ledger first) r why asks is taken = let bad = asks.0 in absurd cc

-- A wait that is asked for is taken.
pub taken_wait : (rows : List Row) (task : TillTask) (r : Result (Option ℕ) NoTask) (why : NoTask) → AsksTillBy (codes "deliver") rows task → IsTillInRange task → r ≡ Err why
    → ((wait : Option ℕ) → IsNumberIn (one_of (codes "wait") rows) wait → IfSome wait IsWait → r ≡ Ok wait) → ⊥
taken_wait rows (Queue ledger options key) r why asks range is taken = let bad = asks.0 in absurd cc
taken_wait rows (QueueRaw ledger width key) r why asks range is taken = let bad = asks.0 in absurd cc
taken_wait rows (QueueAgain ledger number) r why asks range is taken = let bad = asks.0 in absurd cc
taken_wait rows (Deliver ledger d wait) r why asks range is taken =
    let (name, path, address, openings, patience, copy, is_wait) = asks in
    let (low, high, within, fits, in_range) = range in
    no_error r wait why (taken wait is_wait in_range) is
taken_wait rows (Cancel ledger number) r why asks range is taken = let bad = asks.0 in absurd cc
taken_wait rows (Renew ledger new) r why asks range is taken = let bad = asks.0 in absurd cc
taken_wait rows (listing ledger first) r why asks range is taken = let bad = asks.0 in absurd cc

-- The number of a receipt that is to be taken once more is taken.
pub taken_again : (rows : List Row) (task : TillTask) (r : Result (Option ℕ) NoTask) (why : NoTask) → AsksTillBy (codes "queue") rows task → IsTillInRange task → r ≡ Err why
    → ((again : Option ℕ) → IsNumberIn (one_of (codes "again") rows) again → IfSome again (λ n. 0 < n) → r ≡ Ok again) → ⊥
taken_again rows (Queue ledger options key) r why asks range is taken =
    let (name, path, none, gives, bare, is_key) = asks in
    no_error r None why (taken None (subst (λ o. IsNumberIn o None) (sym none) refl) tt) is
taken_again rows (QueueRaw ledger width key) r why asks range is taken =
    let (name, path, none, dots, replaced, raw, is_key) = asks in
    no_error r None why (taken None (subst (λ o. IsNumberIn o None) (sym none) refl) tt) is
taken_again rows (QueueAgain ledger number) r why asks range is taken =
    let (name, path, given, none, bare, keyless) = asks in
    no_error r (Some number) why (taken (Some number) (number_in _ number given) range) is
taken_again rows (Deliver ledger d wait) r why asks range is taken = let bad = asks.0 in absurd cc
taken_again rows (Cancel ledger number) r why asks range is taken = let bad = asks.0 in absurd cc
taken_again rows (Renew ledger new) r why asks range is taken = let bad = asks.0 in absurd cc
taken_again rows (listing ledger first) r why asks range is taken = let bad = asks.0 in absurd cc

-- A key that is given is taken.
pub taken_key : (rows : List Row) (task : TillTask) (r : Result (Option (List ℕ)) NoTask) (why : NoTask) → AsksTillBy (codes "queue") rows task → IsTillInRange task → r ≡ Err why
    → ((key : Option (List ℕ)) → first_of (codes "key") rows ≡ key → IfSome key IsKey → r ≡ Ok key) → ⊥
taken_key rows (Queue ledger options key) r why asks range is taken =
    let (name, path, none, gives, bare, is_key) = asks in
    no_error r key why (taken key is_key range.1) is
taken_key rows (QueueRaw ledger width key) r why asks range is taken =
    let (name, path, none, dots, replaced, raw, is_key) = asks in
    no_error r key why (taken key is_key range.1) is
taken_key rows (QueueAgain ledger number) r why asks range is taken =
    let (name, path, given, none, bare, keyless) = asks in
    no_error r None why (taken None keyless tt) is
taken_key rows (Deliver ledger d wait) r why asks range is taken = let bad = asks.0 in absurd cc
taken_key rows (Cancel ledger number) r why asks range is taken = let bad = asks.0 in absurd cc
taken_key rows (Renew ledger new) r why asks range is taken = let bad = asks.0 in absurd cc
taken_key rows (listing ledger first) r why asks range is taken = let bad = asks.0 in absurd cc

same_delivery : (ledger path : List ℕ) (a : Address) (n s : ℕ) (copy : Option (List ℕ)) (wait other : Option ℕ) (d : Delivery) → ledger ≡ path → a ≡ d.address → n ≡ d.openings
    → s ≡ d.patience → copy ≡ d.copy → wait ≡ other → Deliver ledger (record { address = a; openings = n; patience = s; copy = copy }) wait ≡ Deliver path d other
same_delivery ledger path a n s copy wait other d e f g p h k =
    ap (λ l. Deliver l (record { address = a; openings = n; patience = s; copy = copy }) wait) e
    ∙ ap (λ x. Deliver path (record { address = x; openings = n; patience = s; copy = copy }) wait) f
    ∙ ap (λ x. Deliver path (record { address = d.address; openings = x; patience = s; copy = copy }) wait) g
    ∙ ap (λ x. Deliver path (record { address = d.address; openings = d.openings; patience = x; copy = copy }) wait) p
    ∙ ap (λ x. Deliver path (record { address = d.address; openings = d.openings; patience = d.patience; copy = x }) wait) h
    ∙ ap (λ x. Deliver path d x) k

-- The values that were read are those that are asked for.
pub taken_task : (rows : List Row) (task : TillTask) (ledger : List ℕ) (a : Address) (n s : ℕ) (copy : Option (List ℕ)) (wait : Option ℕ) → AsksTillBy (codes "deliver") rows task → IsTillInRange task
    → ((path : List ℕ) → first_of (codes "ledger") rows ≡ Some path → ledger ≡ path)
    → ((b : Address) → IsSomeAnd (first_of (codes "address") rows) (λ text. IsAddress text b) → a ≡ b)
    → ((m : ℕ) → IsNumberOr OPENINGS (one_of (codes "openings") rows) m → 1 ≤ m → m ≤ MOST_OPENINGS → n ≡ m)
    → ((m : ℕ) → IsNumberOr PATIENCE (one_of (codes "patience") rows) m → IsWait m → s ≡ m)
    → ((text : Option (List ℕ)) → first_of (codes "copy") rows ≡ text → IfSome text IsCopyText → copy ≡ text)
    → ((other : Option ℕ) → IsNumberIn (one_of (codes "wait") rows) other → IfSome other IsWait → wait ≡ other)
    → Deliver ledger (record { address = a; openings = n; patience = s; copy = copy }) wait ≡ task
taken_task rows (Queue path options key) ledger a n s copy wait asks range l b m p k w = let bad = asks.0 in absurd cc
taken_task rows (QueueRaw path width key) ledger a n s copy wait asks range l b m p k w = let bad = asks.0 in absurd cc
taken_task rows (QueueAgain path number) ledger a n s copy wait asks range l b m p k w = let bad = asks.0 in absurd cc
taken_task rows (Deliver path d other) ledger a n s copy wait asks range l b m p k w =
    let (name, is_path, address, openings, patience, is_copy, is_wait) = asks in
    let (low, high, within, fits, in_range) = range in
    same_delivery ledger path a n s copy wait other d (l path is_path) (b d.address address) (m d.openings openings low high) (p d.patience patience within) (k d.copy is_copy fits)
    (w other is_wait in_range)
taken_task rows (Cancel path number) ledger a n s copy wait asks range l b m p k w = let bad = asks.0 in absurd cc
taken_task rows (Renew path new) ledger a n s copy wait asks range l b m p k w = let bad = asks.0 in absurd cc
taken_task rows (listing path first) ledger a n s copy wait asks range l b m p k w = let bad = asks.0 in absurd cc

-- ## A ledger that is renewed, or listed

-- The two names have as many letters.
cancels_no_ledger : codes "ledger" ≢ codes "cancel"
cancels_no_ledger same =
    let letters = ap head same in
    absurd (omega (arith, letters))

pub taken_renewal : (rows : List Row) (task : TillTask) (ledger new : List ℕ) (r : Result TillTask NoTask) → AsksTillBy (codes "ledger") rows task → first_of (codes "renew") rows ≡ Some new
    → ((path : List ℕ) → first_of (codes "ledger") rows ≡ Some path → ledger ≡ path) → (IsNumberIn (one_of (codes "first") rows) None → r ≡ Ok (Renew ledger new)) → r ≡ Ok task
taken_renewal rows (Queue path options key) ledger new r asks is same taken = let bad = asks.0 in absurd cc
taken_renewal rows (QueueRaw path width key) ledger new r asks is same taken = let bad = asks.0 in absurd cc
taken_renewal rows (QueueAgain path number) ledger new r asks is same taken = let bad = asks.0 in absurd cc
taken_renewal rows (Deliver path d other) ledger new r asks is same taken = let bad = asks.0 in absurd cc
taken_renewal rows (Cancel path number) ledger new r asks is same taken = absurd (cancels_no_ledger asks.0)
taken_renewal rows (Renew path other) ledger new r asks is same taken =
    let (name, is_path, is_other, none) = asks in
    let one : new ≡ other = (let both : Some new ≡ Some other = sym is ∙ is_other in cc) in
    taken none ∙ ap (λ l. Ok (Renew l new)) (same path is_path) ∙ ap (λ l. Ok (Renew path l)) one
taken_renewal rows (listing path first) ledger new r asks is same taken =
    let (name, is_path, none, number) = asks in
    absurd (let bad : Some new ≡ None = sym is ∙ none in cc)

pub taken_listing : (rows : List Row) (task : TillTask) (ledger : List ℕ) (r : Result TillTask NoTask) → AsksTillBy (codes "ledger") rows task → first_of (codes "renew") rows ≡ None
    → ((path : List ℕ) → first_of (codes "ledger") rows ≡ Some path → ledger ≡ path)
    → ((first : Option ℕ) → IsNumberIn (one_of (codes "first") rows) first → r ≡ Ok (listing ledger first)) → r ≡ Ok task
taken_listing rows (Queue path options key) ledger r asks is same taken = let bad = asks.0 in absurd cc
taken_listing rows (QueueRaw path width key) ledger r asks is same taken = let bad = asks.0 in absurd cc
taken_listing rows (QueueAgain path number) ledger r asks is same taken = let bad = asks.0 in absurd cc
taken_listing rows (Deliver path d other) ledger r asks is same taken = let bad = asks.0 in absurd cc
taken_listing rows (Cancel path number) ledger r asks is same taken = absurd (cancels_no_ledger asks.0)
taken_listing rows (Renew path other) ledger r asks is same taken =
    let (name, is_path, is_other, none) = asks in
    absurd (let bad : Some other ≡ None = sym is_other ∙ is in cc)
taken_listing rows (listing path first) ledger r asks is same taken =
    let (name, is_path, none, number) = asks in
    taken first number ∙ ap (λ l. Ok (listing l first)) (same path is_path)
