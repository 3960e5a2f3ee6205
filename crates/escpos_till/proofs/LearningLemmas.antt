-- What entries that others have added do to what a machine knows, and to what it was to keep.
use Rattle.std.proofs.Common.{ℕ, zero, suc, true, false, ◌==◌, ◌≡◌, ◌+◌, ◌-◌, ◌<◌, ◌⊎◌, inl, inr, cond, Option, Some, None, Result, Ok, Err, OnOk, IfErr, List, [], ◌∷◌, ◌++◌, length, length-drop, take, drop, get_or, refl, sym, ◌∙◌, ap, subst, append-nil, append_assoc, arith}
use Rattle.std.specs.List.{AllByRecursion, position_from}
use Rattle.std.proofs.Math.Nat.{le-max_right}
use Rattle.std.proofs.lemmas.List.{take-append-drop, take_all}
use Rattle.std.proofs.lemmas.List.Elements.{filter_map-append}
use Rattle.std.proofs.lemmas.List.Sums.{sum_by-append}
use Rattle.escpos_host.specs.Machine.{HostView}
use Rattle.escpos_till.specs.declared.book.Book.{Book}
use Rattle.escpos_till.specs.declared.entry.Entry.{Entry}
use Rattle.escpos_till.specs.declared.entry.Entry.TheVariants as entry
use Rattle.escpos_till.specs.declared.entry.Entry.TheVariants.{Queued, Tried, Recorded, Raised, Cancelled}
use Rattle.escpos_till.specs.declared.stage.Due.{Due}
use Rattle.escpos_till.specs.declared.stage.Stage.{Stage}
use Rattle.escpos_till.specs.declared.stage.Then.{Then}
use Rattle.escpos_till.specs.declared.stage.Then.TheVariants as then
use Rattle.escpos_till.specs.declared.state.ReceiptState.{ReceiptState}
use Rattle.escpos_till.specs.declared.state.ReceiptState.TheVariants as state
use Rattle.escpos_till.specs.declared.store.StoreFault.{StoreFault}
use Rattle.escpos_till.specs.Book.{HasTryRoom, IsBookOf}
use Rattle.escpos_till.specs.Delivers.{marks_taken, most_entries}
use Rattle.escpos_till.specs.Entries.{IsLedger, MayFollow, Waits, cancel_place_of, earlier, is_try_of, place_of, record_of, recorded, state_by, state_of, times_tried}
use Rattle.escpos_till.specs.Learning.{AreOthers, FollowAll, IsOthers, Revises, StandsIn, WaitsOrCancelled}
use Rattle.escpos_till.specs.Machine.{Fits, Suits}
use Rattle.escpos_till.proofs.EntryLemmas.{is_other, last_grows, ledger-snoc, one_longer, state_waits}
use Rattle.escpos_till.proofs.MachineLemmas.{fits_printed, fits_recorded}

-- ## Each of a list

others_snoc : (es : List Entry) (e : Entry) → AllByRecursion IsOthers es → IsOthers e → AllByRecursion IsOthers (es ++ e ∷ [])
others_snoc [] e all is = (is, tt)
others_snoc (x ∷ es) e (first, more) is = (first, others_snoc es e more is)

pub others_longer : (es : List Entry) (i : ℕ) (e : Entry) → i < length es → e ≡ get_or es i e → AllByRecursion IsOthers (take i es) → IsOthers e → AllByRecursion IsOthers (take (i + 1) es)
others_longer es i e inside is all this = subst (AllByRecursion IsOthers) (sym (one_longer es i e inside is)) (others_snoc (take i es) e all this)

pub other_at : (es : List Entry) (i : ℕ) (e : Entry) → i < length es → e ≡ get_or es i e → AllByRecursion IsOthers es → IsOthers e
other_at [] i e inside is all = absurd (omega (arith, inside))
other_at (x ∷ es) zero e inside is (first, more) = subst IsOthers (sym is) first
other_at (x ∷ es) (suc i) e inside is (first, more) = other_at es i e (omega (arith, inside)) is more

-- ## One after another

follow_snoc : (es xs : List Entry) (e : Entry) → FollowAll es xs → MayFollow (es ++ xs) e → FollowAll es (xs ++ e ∷ [])
follow_snoc es [] e all follows = (subst (λ v. MayFollow v e) (append-nil es) follows, tt)
follow_snoc es (x ∷ xs) e (first, more) follows = (first, follow_snoc (es ++ x ∷ []) xs e more (subst (λ v. MayFollow v e) (sym (append_assoc es (x ∷ []) xs)) follows))

pub follow_longer : (es more : List Entry) (i : ℕ) (e : Entry) → i < length more → e ≡ get_or more i e → FollowAll es (take i more) → MayFollow (es ++ take i more) e
    → FollowAll es (take (i + 1) more)
follow_longer es more i e inside is all follows = subst (FollowAll es) (sym (one_longer more i e inside is)) (follow_snoc es (take i more) e all follows)

pub follow_at : (es more : List Entry) (i : ℕ) (e : Entry) → i < length more → e ≡ get_or more i e → FollowAll es more → MayFollow (es ++ take i more) e
follow_at es [] i e inside is all = absurd (omega (arith, inside))
follow_at es (x ∷ more) zero e inside is (first, rest) = subst (λ v. MayFollow v e) (sym (append-nil es)) (subst (MayFollow es) (sym is) first)
follow_at es (x ∷ more) (suc i) e inside is (first, rest) =
    subst (λ v. MayFollow v e) (append_assoc es (x ∷ []) (take i more)) (follow_at (es ++ x ∷ []) more i e (omega (arith, inside)) is rest)

pub longer_by_one : (es more : List Entry) (i : ℕ) (e : Entry) → i < length more → e ≡ get_or more i e → (es ++ take i more) ++ e ∷ [] ≡ es ++ take (i + 1) more
longer_by_one es more i e inside is = append_assoc es (take i more) (e ∷ []) ∙ ap (λ v. es ++ v) (sym (one_longer more i e inside is))

-- In a ledger each entry may follow; and entries that may follow make one.
pub followed : (before more : List Entry) → IsLedger (before ++ more) → FollowAll before more
followed before [] ledger = tt
followed before (e ∷ es) ledger = (ledger before e es refl, followed (before ++ e ∷ []) es (subst IsLedger (sym (append_assoc before (e ∷ []) es)) ledger))

pub ledger_of : (before more : List Entry) → IsLedger before → FollowAll before more → IsLedger (before ++ more)
ledger_of before [] ledger all = subst IsLedger (sym (append-nil before)) ledger
ledger_of before (e ∷ es) ledger (follows, all) = subst IsLedger (append_assoc before (e ∷ []) es) (ledger_of (before ++ e ∷ []) es (ledger-snoc before e ledger follows) all)

-- ## What others leave as it is

others_record : (es : List Entry) → AllByRecursion IsOthers es → recorded es ≡ []
others_record [] all = refl
others_record (Queued content ∷ es) (this, more) = others_record es more
others_record (Tried n next ∷ es) (this, more) = absurd this
others_record (Recorded n hd ∷ es) (this, more) = absurd this
others_record (Raised next hd ∷ es) (this, more) = others_record es more
others_record (Cancelled n ∷ es) (this, more) = others_record es more
others_record (entry.Key key ∷ es) (this, more) = others_record es more
others_record (entry.Renewed last hd ∷ es) (this, more) = absurd this
others_record (entry.Earlier n key ∷ es) (this, more) = absurd this

pub others_recorded : (es others : List Entry) → AllByRecursion IsOthers others → recorded (es ++ others) ≡ recorded es
others_recorded es others all = filter_map-append record_of es others ∙ ap (λ rs. recorded es ++ rs) (others_record others all) ∙ append-nil (recorded es)

others_try : (es : List Entry) (n : ℕ) → AllByRecursion IsOthers es → times_tried es n ≡ 0
others_try [] n all = refl
others_try (Queued content ∷ es) n (this, more) = others_try es n more
others_try (Tried m next ∷ es) n (this, more) = absurd this
others_try (Recorded m hd ∷ es) n (this, more) = absurd this
others_try (Raised next hd ∷ es) n (this, more) = others_try es n more
others_try (Cancelled m ∷ es) n (this, more) = others_try es n more
others_try (entry.Key key ∷ es) n (this, more) = others_try es n more
others_try (entry.Renewed last hd ∷ es) n (this, more) = absurd this
others_try (entry.Earlier m key ∷ es) n (this, more) = absurd this

pub others_tried : (es others : List Entry) (n : ℕ) → AllByRecursion IsOthers others → times_tried (es ++ others) n ≡ times_tried es n
others_tried es others n all =
    let sums : times_tried (es ++ others) n ≡ times_tried es n + times_tried others n = sum_by-append (λ x. cond (is_try_of n x) 1 0) es others in
    omega (arith, sums, others_try others n all)

-- A receipt that was taken here is taken here where others have added entries.
others_older : (es others : List Entry) → AllByRecursion IsOthers others → earlier (es ++ others) ≡ earlier es
others_older (e ∷ es) others all = refl
others_older [] [] all = refl
others_older [] (Queued content ∷ others) all = refl
others_older [] (Tried n next ∷ others) all = refl
others_older [] (Recorded n hd ∷ others) all = refl
others_older [] (Raised next hd ∷ others) all = refl
others_older [] (Cancelled n ∷ others) all = refl
others_older [] (entry.Key key ∷ others) all = refl
others_older [] (entry.Renewed last hd ∷ others) (this, more) = absurd this
others_older [] (entry.Earlier n key ∷ others) all = refl

stands_by : (es : List Entry) (n : ℕ) (cancel : Option ℕ) → place_of es n ≡ None → cancel_place_of es n ≡ cancel
    → (tried : ℕ) × ((state_of es n ≡ state.Waiting tried) ⊎ (state_of es n ≡ state.Cancelled tried))
stands_by es n None place is = (times_tried es n, inl (state_waits es n place is))
stands_by es n (Some k) place is =
    (times_tried es n, inr (ap (λ p. state_by p (cancel_place_of es n) (times_tried es n)) place ∙ ap (λ c. state_by None c (times_tried es n)) is))

-- A receipt that waits still waits, or it is cancelled.
pub stands_after : (b : Book) (es others : List Entry) (n : ℕ) → IsBookOf b (es ++ others) → AllByRecursion IsOthers others → Waits es n → StandsIn b n
stands_after b es others n book all waits = (
  es ++ others,
  book,
  omega (arith, others_older es others all, waits.here),
  omega (arith, last_grows es others, waits.taken),
  stands_by (es ++ others) n (cancel_place_of (es ++ others) n) (ap (position_from (λ m. m == n) 0) (others_recorded es others all) ∙ waits.open_still) refl,
)

-- ## What is to be kept

waits_to_follow : (es : List Entry) (e : Entry) (next : Then) (n : ℕ) → MayFollow es e → Suits next e → next ≡ then.Recorded n → Waits es n × (0 < times_tried es n)
waits_to_follow es (Recorded m hd) (then.Recorded k) n follows suits is =
    let same : k ≡ n = cc is in
    subst (λ v. Waits es v × (0 < times_tried es v)) (suits ∙ same) (follows.0, follows.1)
waits_to_follow es (Queued content) (then.Recorded k) n follows suits is = absurd suits
waits_to_follow es (Tried m next) (then.Recorded k) n follows suits is = absurd suits
waits_to_follow es (Raised next hd) (then.Recorded k) n follows suits is = absurd suits
waits_to_follow es (Cancelled m) (then.Recorded k) n follows suits is = absurd suits
waits_to_follow es (entry.Key key) (then.Recorded k) n follows suits is = absurd suits
waits_to_follow es e (then.GoOn m tried due) n follows suits is = absurd (let bad : then.GoOn m tried due ≡ then.Recorded n = is in cc)
waits_to_follow es e (then.SendNext m due) n follows suits is = absurd (let bad : then.SendNext m due ≡ then.Recorded n = is in cc)
waits_to_follow es (entry.Renewed last hd) (then.Recorded k) n follows suits is = absurd suits
waits_to_follow es (entry.Earlier m key) (then.Recorded k) n follows suits is = absurd suits
waits_to_follow es e (then.Send due) n follows suits is = absurd (let bad : then.Send due ≡ then.Recorded n = is in cc)
waits_to_follow es e then.Queued n follows suits is = absurd (let bad : then.Queued ≡ then.Recorded n = is in cc)
waits_to_follow es e (then.Take content) n follows suits is = absurd (let bad : then.Take content ≡ then.Recorded n = is in cc)
waits_to_follow es e then.Raised n follows suits is = absurd (let bad : then.Raised ≡ then.Recorded n = is in cc)
waits_to_follow es e (then.Cancelled m tried) n follows suits is = absurd (let bad : then.Cancelled m tried ≡ then.Recorded n = is in cc)

going_to_follow : (es : List Entry) (e : Entry) (n : ℕ) (tried : Entry) (due : Due) → MayFollow es e → Suits (then.GoOn n tried due) e → Waits es n × (0 < times_tried es n)
going_to_follow es (Recorded m hd) n tried due follows (same, this) = subst (λ v. Waits es v × (0 < times_tried es v)) same (follows.0, follows.1)
going_to_follow es (Queued content) n tried due follows suits = absurd suits
going_to_follow es (Tried m next) n tried due follows suits = absurd suits
going_to_follow es (Raised next hd) n tried due follows suits = absurd suits
going_to_follow es (Cancelled m) n tried due follows suits = absurd suits
going_to_follow es (entry.Key key) n tried due follows suits = absurd suits
going_to_follow es (entry.Renewed last hd) n tried due follows suits = absurd suits
going_to_follow es (entry.Earlier m key) n tried due follows suits = absurd suits

waits_to_send : (es : List Entry) (e : Entry) (due : Due) → MayFollow es e → Suits (then.Send due) e → Waits es due.number
waits_to_send es (Tried m next) due follows suits = subst (Waits es) suits follows.0
waits_to_send es (Queued content) due follows suits = absurd suits
waits_to_send es (Recorded m hd) due follows suits = absurd suits
waits_to_send es (Raised next hd) due follows suits = absurd suits
waits_to_send es (Cancelled m) due follows suits = absurd suits
waits_to_send es (entry.Key key) due follows suits = absurd suits
waits_to_send es (entry.Renewed last hd) due follows suits = absurd suits
waits_to_send es (entry.Earlier m key) due follows suits = absurd suits

pub on_ok : {X E : Type 0} (r : Result X E) (A : Type 0) → A → OnOk r A
on_ok (Ok x) A a = a
on_ok (Err e) A a = tt

-- What a machine delivers stands, once it has learned of the others.
pub stands_then : (b' : Book) (es others : List Entry) (e : Entry) (next : Then) → IsBookOf b' (es ++ others) → AllByRecursion IsOthers others → MayFollow es e → Suits next e
    → WaitsOrCancelled b' next
stands_then b' es others e (then.Send due) book all follows suits = stands_after b' es others due.number book all (waits_to_send es e due follows suits)
stands_then b' es others e (then.Recorded n) book all follows suits =
    stands_after b' es others n book all (waits_to_follow es e (then.Recorded n) n follows suits refl).0
stands_then b' es others e (then.GoOn n tried due) book all follows suits = stands_after b' es others n book all (going_to_follow es e n tried due follows suits).0
stands_then b' es others e (then.SendNext n due) book all follows suits = tt
stands_then b' es others e then.Queued book all follows suits = tt
stands_then b' es others e (then.Take content) book all follows suits = tt
stands_then b' es others e then.Raised book all follows suits = tt
stands_then b' es others e (then.Cancelled n tried) book all follows suits = tt

-- What it keeps then fits.
pub fits_revised : (b : Book) (es others : List Entry) (e : Entry) (next : Then) (before h : HostView) (s : Stage) → IsBookOf b (es ++ others) → AllByRecursion IsOthers others → MayFollow es e → Suits next e
    → length (es ++ others) + 1 < most_entries → HasTryRoom b → Revises next b before h s → Fits b (es ++ others) s
fits_revised b es others e (then.Send due) before h s book all follows suits few room (inl (waits, marks, same, is)) =
    subst (Fits b (es ++ others)) (sym is) (
      (waits (es ++ others) book, omega (arith, book.next, le-max_right due.openings 1), omega (arith, book.next, book.heard, marks)),
      refl,
      few,
      (λ content bad. absurd (let no : entry.Tried due.number (b.next + marks_taken due.openings) ≡ entry.Queued content = bad in cc)),
      (λ number last same. room),
      (λ content bad. absurd (let no : then.Send due ≡ then.Take content = bad in cc)),
      tt,
    )
fits_revised b es others e (then.Send due) before h s book all follows suits few room (inr (inl (waits, none, drops, is))) = subst (Fits b (es ++ others)) (sym is) tt
fits_revised b es others e (then.Send due) before h s book all follows suits few room (inr (inr (tried, cancelled, drops, is))) = subst (Fits b (es ++ others)) (sym is) tt
fits_revised b es others e (then.Recorded n) before h s book all follows suits few room (inl (waits, same, is)) =
    let tried : 0 < times_tried (es ++ others) n =
    omega (arith, others_tried es others n all, (waits_to_follow es e (then.Recorded n) n follows suits refl).1) in
    subst (Fits b (es ++ others)) (sym is) (fits_printed b (es ++ others) n before book (waits (es ++ others) book) tried (omega (arith, few)))
fits_revised b es others e (then.Recorded n) before h s book all follows suits few room (inr (tried, cancelled, drops, is)) = subst (Fits b (es ++ others)) (sym is) tt
fits_revised b es others e (then.GoOn n tried due) before h s book all follows suits few room (inl (waits, same, goes)) =
    let tried_so : 0 < times_tried (es ++ others) n = omega (arith, others_tried es others n all, (going_to_follow es e n tried due follows suits).1) in
    fits_recorded b (es ++ others) n due.further before s book (waits (es ++ others) book) tried_so (omega (arith, few)) goes
fits_revised b es others e (then.GoOn n tried due) before h s book all follows suits few room (inr (times, cancelled, drops, is)) = subst (Fits b (es ++ others)) (sym is) tt
fits_revised b es others e (then.SendNext n due) before h s book all follows suits few room (drops, is) = subst (Fits b (es ++ others)) (sym is) tt
fits_revised b es others e then.Queued before h s book all follows suits few room none = absurd none
fits_revised b es others e (then.Take content) before h s book all follows suits few room none = absurd none
fits_revised b es others e then.Raised before h s book all follows suits few room none = absurd none
fits_revised b es others e (then.Cancelled n tried) before h s book all follows suits few room none = absurd none

-- ## Where a receipt stands

-- It isn't recorded, and it was taken.
pub not_recorded : (es : List Entry) (n place tried : ℕ) (s : ReceiptState) → s ≡ state_of es n → s ≡ state.Recorded place → (state_of es n ≡ state.Waiting tried) ⊎ (state_of es n ≡ state.Cancelled tried) → ⊥
not_recorded es n place tried s is recorded (inl waits) = let bad : state.Recorded place ≡ state.Waiting tried = sym recorded ∙ is ∙ waits in cc
not_recorded es n place tried s is recorded (inr cancelled) = let bad : state.Recorded place ≡ state.Cancelled tried = sym recorded ∙ is ∙ cancelled in cc

-- ## What was found

-- Entries that begin with those that are known go on with such as others may have added.
pub since_so : (known found rest items : List Entry) → take (length known) found ≡ known → rest ≡ take (length found - length known) (drop (length known) found) → items ≡ rest
    → AllByRecursion IsOthers rest → IsLedger found ⊎ (rest ≡ []) → (found ≡ known ++ items) × AreOthers known items
since_so known found rest items same rest_is items_are each ledger =
    let whole : take (length found - length known) (drop (length known) found) ≡ drop (length known) found =
    take_all (length found - length known) (drop (length known) found) (omega (arith, length-drop (length known) found)) in
    let is : items ≡ drop (length known) found = items_are ∙ rest_is ∙ whole in
    let split : found ≡ known ++ items = sym (take-append-drop (length known) found) ∙ ap (λ v. v ++ drop (length known) found) same ∙ ap (λ v. known ++ v) (sym is) in
    (split, record { each = subst (AllByRecursion IsOthers) (sym items_are) each; follow = follows_by items_are ledger split })
  where
    follows_by : items ≡ rest → IsLedger found ⊎ (rest ≡ []) → found ≡ known ++ items → FollowAll known items
    follows_by items_are (inl ledger) split = followed known items (subst IsLedger split ledger)
    follows_by items_are (inr none) split = subst (FollowAll known) (sym (items_are ∙ none)) tt

pub no_entries : (es : List Entry) → true ≡ (length es == 0) → es ≡ []
no_entries [] none = refl
no_entries (e ∷ es) none = absurd (let bad : true ≡ false = none ∙ is_other (length (e ∷ es)) 0 (λ zero_is. omega (arith, zero_is)) in cc)

-- ## What came of it

pub either_way : {A : Type 0} {B : StoreFault → Type 0} (r : Result Unit StoreFault) → OnOk r A → IfErr r B → A ⊎ ((why : StoreFault) × B why)
either_way (Ok u) all fails = inl all
either_way (Err why) all fails = inr (why, fails)
