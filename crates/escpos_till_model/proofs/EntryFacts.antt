-- What stays true of receipts and numbers when a ledger gets one more entry.
use Rattle.std.proofs.Common.{ℕ, ◌≡◌, ◌+◌, ◌≤◌, ◌⊎◌, inl, inr, Bool, true, false, cond, Some, None, List, [], ◌∷◌, ◌++◌, length, refl, sym, ◌∙◌, ap, subst, add-zero, append-nil, append_assoc, arith}
use Rattle.std.specs.Prelude.{filter, slice_get}
use Rattle.std.specs.List.{AllZip, cons_option}
use Rattle.std.proofs.lemmas.List.Elements.{filter-append, filter_map-append}
use Rattle.std.proofs.lemmas.Option.{same_Some}
use Rattle.escpos_command.specs.declared.command.Command.{Command}
use Rattle.escpos_till.specs.declared.entry.Content.{Content}
use Rattle.escpos_till.specs.declared.entry.Entry.{Entry}
use Rattle.escpos_till.specs.declared.entry.Entry.TheVariants.{Queued, Tried, Recorded, Raised, Cancelled, Key, Renewed, Earlier}
use Rattle.escpos_till.specs.Entries.{MayFollow, Taken, cancel_of, cancelled, content_of, contents, earlier_of, next_free, numbered_from, record_of, recorded, taken}
use Rattle.escpos_till.specs.Delivers.{FirstWaits}
use Rattle.escpos_till.proofs.EntryLemmas.{next_after_cancelled, next_after_earlier, next_after_key, next_after_queued, next_after_raised, next_after_recorded, next_after_renewed, next_after_tried}
use Rattle.escpos_till_model.specs.Receipts.{Among, AreReceipts, IsReceiptOf, IsTaken}

-- ## What is among a list

pub among_more : {X : Type 0} (x : X) (xs more : List X) → Among x xs → Among x (xs ++ more)
among_more x xs more (before, following, is) = (before, following ++ more, ap (λ v. v ++ more) is ∙ append_assoc before (x ∷ following) more)

pub among_later : {X : Type 0} (x y : X) (xs : List X) → Among x xs → Among x (y ∷ xs)
among_later x y xs (before, following, is) = (y ∷ before, following, ap (λ v. y ∷ v) is)

pub among_first : {X : Type 0} (x y : X) (xs : List X) → y ≡ x → Among x (y ∷ xs)
among_first x y xs same = ([], xs, ap (λ v. v ∷ xs) same)

pub among_cons : {X : Type 0} (x y : X) (xs : List X) → Among x (y ∷ xs) → (y ≡ x) ⊎ Among x xs
among_cons x y xs ([], following, is) = inl (cc is)
among_cons x y xs (z ∷ before, following, is) = inr (before, following, cc is)

pub among_nothing : {X : Type 0} (x : X) → Among x [] → ⊥
among_nothing x ([], following, is) = cc is
among_nothing x (z ∷ before, following, is) = cc is

pub among_last : {X : Type 0} (x y : X) (xs : List X) → Among x (xs ++ y ∷ []) → Among x xs ⊎ (y ≡ x)
among_last x y [] among = elim (among_cons x y [] among) [
  | inl same ↦ inr same
  | inr more ↦ absurd (among_nothing x more)
]
among_last x y (z ∷ xs) among = elim (among_cons x z (xs ++ y ∷ []) among) [
  | inl same ↦ inl (among_first x z xs same)
  | inr more ↦ elim (among_last x y xs more) [
    | inl there ↦ inl (among_later x z xs there)
    | inr same ↦ inr same
  ]
]

pub among_either : {X : Type 0} (x : X) (xs more : List X) → Among x (xs ++ more) → Among x xs ⊎ Among x more
among_either x [] more among = inr among
among_either x (y ∷ xs) more among = elim (among_cons x y (xs ++ more) among) [
  | inl same ↦ inl (among_first x y xs same)
  | inr later ↦ elim (among_either x xs more later) [
    | inl there ↦ inl (among_later x y xs there)
    | inr beyond ↦ inr beyond
  ]
]

-- What a filter lets through was there, and passed.
filtered_step : {X : Type 0} (p : X → Bool) (x y : X) (xs : List X) (b : Bool) → p y ≡ b → (Among x (filter p xs) → Among x xs × (p x ≡ true))
    → Among x (cond b (y ∷ filter p xs) (filter p xs)) → Among x (y ∷ xs) × (p x ≡ true)
filtered_step p x y xs true is later among = elim (among_cons x y (filter p xs) among) [
  | inl same ↦ (among_first x y xs same, ap p (sym same) ∙ is)
  | inr more ↦ let found = later more in (among_later x y xs found.0, found.1)
]
filtered_step p x y xs false is later among = let found = later among in (among_later x y xs found.0, found.1)

pub among_filtered : {X : Type 0} (p : X → Bool) (x : X) (xs : List X) → Among x (filter p xs) → Among x xs × (p x ≡ true)
among_filtered p x [] among = absurd (among_nothing x among)
among_filtered p x (y ∷ xs) among = filtered_step p x y xs (p y) refl (among_filtered p x xs) among

-- What is there and passes is let through.
pub filter_keeps : {X : Type 0} (p : X → Bool) (x : X) (xs : List X) → p x ≡ true → Among x xs → Among x (filter p xs)
filter_keeps p x xs passes (before, following, is) = (
  filter p before,
  filter p following,
  ap (filter p) is ∙ filter-append p before (x ∷ following)
      ∙ ap (λ b. filter p before ++ cond b (x ∷ filter p following) (filter p following)) passes,
)

pub first_among : {X : Type 0} (x : X) (xs : List X) → slice_get xs 0 ≡ Some x → Among x xs
first_among x [] e = absurd (let bad : None ≡ Some x = e in cc)
first_among x (y ∷ xs) e = among_first x y xs (same_Some y x e)

-- ## Receipts that were taken

numbered_append : (m : ℕ) (cs ds : List Content) → numbered_from m (cs ++ ds) ≡ numbered_from m cs ++ numbered_from (m + length cs) ds
numbered_append m [] ds = ap (λ k. numbered_from k ds) (sym (add-zero m))
numbered_append m (c ∷ cs) ds =
    let same : m + 1 + length cs ≡ m + length (c ∷ cs) = omega arith in
    let first : Taken = record { number = m; content = c } in
    ap (λ v. first ∷ v) (numbered_append (m + 1) cs ds ∙ ap (λ k. numbered_from (m + 1) cs ++ numbered_from k ds) same)

taken_append : (e : Entry) (es more : List Entry) → taken (e ∷ es ++ more) ≡ taken (e ∷ es) ++ numbered_from (1 + earlier_of e + length (contents (e ∷ es))) (contents more)
taken_append e es more =
    ap (numbered_from (1 + earlier_of e)) (filter_map-append content_of (e ∷ es) more) ∙ numbered_append (1 + earlier_of e) (contents (e ∷ es)) (contents more)

pub is_taken_grows : (es more : List Entry) (number : ℕ) (content : Content) → IsTaken es number content → IsTaken (es ++ more) number content
is_taken_grows [] more number content is = absurd (among_nothing (let t : Taken = record { number = number; content = content } in t) is)
is_taken_grows (e ∷ es) more number content is =
    let receipt : Taken = record { number = number; content = content } in
    subst (λ ts. Among receipt ts) (sym (taken_append e es more)) (among_more receipt (taken (e ∷ es)) _ is)

pub receipt_of_grows : (es more : List Entry) (number : ℕ) (commands : List Command) → IsReceiptOf es number commands → IsReceiptOf (es ++ more) number commands
receipt_of_grows es more number commands is =
    record { content = is.content; taken = is_taken_grows es more number is.content is.taken; receipt = is.receipt }

-- The first receipt that waits was taken.
pub first_is_taken : (es : List Entry) (number tried : ℕ) (content : Content) → FirstWaits es number content tried → IsTaken es number content
first_is_taken es number tried content first =
    let receipt : Taken = record { number = number; content = content } in
    (among_filtered _ receipt (taken es) (first_among receipt _ first.first)).0

-- ## What is recorded

zip_turn : {A B : Type 0} (R S : A → B → Type 0) → ((a : A) (b : B) → R a b → S a b) → (xs : List A) (ys : List B) → AllZip R xs ys → AllZip S xs ys
zip_turn R S turn [] [] all = tt
zip_turn R S turn [] (y ∷ ys) all = all
zip_turn R S turn (x ∷ xs) [] all = all
zip_turn R S turn (x ∷ xs) (y ∷ ys) all = (turn x y all.0, zip_turn R S turn xs ys all.1)

zip_add : {A B : Type 0} (R : A → B → Type 0) (xs : List A) (ys : List B) (x : A) (y : B) → AllZip R xs ys → R x y → AllZip R (xs ++ x ∷ []) (ys ++ y ∷ [])
zip_add R [] [] x y all one = (one, tt)
zip_add R [] (z ∷ ys) x y all one = absurd all
zip_add R (z ∷ xs) [] x y all one = absurd all
zip_add R (w ∷ xs) (z ∷ ys) x y all one = (all.0, zip_add R xs ys x y all.1 one)

pub zip_length : {A B : Type 0} (R : A → B → Type 0) (xs : List A) (ys : List B) → AllZip R xs ys → length xs ≡ length ys
zip_length R [] [] all = refl
zip_length R [] (y ∷ ys) all = absurd all
zip_length R (x ∷ xs) [] all = absurd all
zip_length R (x ∷ xs) (y ∷ ys) all = let more = zip_length R xs ys all.1 in omega (arith, more)

pub recorded_append : (es more : List Entry) → recorded (es ++ more) ≡ recorded es ++ recorded more
recorded_append es more = filter_map-append record_of es more

pub cancelled_append : (es more : List Entry) → cancelled (es ++ more) ≡ cancelled es ++ cancelled more
cancelled_append es more = filter_map-append cancel_of es more

pub recorded_same : (es : List Entry) (e : Entry) → record_of e ≡ None → recorded (es ++ e ∷ []) ≡ recorded es
recorded_same es e none = recorded_append es (e ∷ []) ∙ ap (λ o. recorded es ++ cons_option o []) none ∙ append-nil (recorded es)

pub are_same : (es : List Entry) (e : Entry) (receipts : List (List Command)) → record_of e ≡ None → AreReceipts es receipts → AreReceipts (es ++ e ∷ []) receipts
are_same es e receipts none are =
    subst (λ ns. AllZip (IsReceiptOf (es ++ e ∷ [])) ns receipts) (sym (recorded_same es e none))
    (zip_turn (IsReceiptOf es) (IsReceiptOf (es ++ e ∷ [])) (receipt_of_grows es (e ∷ [])) (recorded es) receipts are)

pub are_add : (es : List Entry) (number hd : ℕ) (commands : List Command) (receipts : List (List Command)) → AreReceipts es receipts → IsReceiptOf es number commands
    → AreReceipts (es ++ Recorded number hd ∷ []) (receipts ++ commands ∷ [])
are_add es number hd commands receipts are one =
    let more = Recorded number hd ∷ [] in
    subst (λ ns. AllZip (IsReceiptOf (es ++ more)) ns (receipts ++ commands ∷ [])) (sym (recorded_append es more))
    (zip_add (IsReceiptOf (es ++ more)) (recorded es) receipts number commands
    (zip_turn (IsReceiptOf es) (IsReceiptOf (es ++ more)) (receipt_of_grows es more) (recorded es) receipts are)
    (receipt_of_grows es more number commands one))

-- ## Mark numbers

-- The next mark number never falls.
pub next_grows : (es : List Entry) (e : Entry) → MayFollow es e → next_free es ≤ next_free (es ++ e ∷ [])
next_grows es (Queued content) follows = omega (arith, next_after_queued es content)
next_grows es (Tried number next) follows = omega (arith, follows.1, next_after_tried es number next)
next_grows es (Recorded number hd) follows = omega (arith, next_after_recorded es number hd)
next_grows es (Raised next hd) follows = omega (arith, follows.0, next_after_raised es next hd)
next_grows es (Cancelled number) follows = omega (arith, next_after_cancelled es number)
next_grows es (Key key) follows = omega (arith, next_after_key es key)
next_grows es (Renewed last hd) follows = omega (arith, next_after_renewed es last hd)
next_grows es (Earlier number key) follows = omega (arith, next_after_earlier es number key)
