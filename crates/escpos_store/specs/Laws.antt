-- The laws of the store: a database has one list of entries, and what a store holds outlives a crash.
use Rattle.std.proofs.Common.{◌≡◌, ℕ, ◌+◌, ◌<◌, ◌==◌, Bool, true, false, not, List, [], ◌∷◌, filter, Option, None, Some, pos, refl, ◌∙◌, ap, ap₂, subst₂, arith, IsPermutation}
use Rattle.std.proofs.lemmas.Bool.Decides.{nat_tests}
use Rattle.std.proofs.lemmas.List.Sorted.{length_permutation, IsPermutation-trans, IsPermutation-sym}
use Rattle.escpos_receipt.specs.declared.options.ReceiptOptions.{ReceiptOptions}
use Rattle.escpos_till.specs.declared.entry.Content.{Content}
use Rattle.escpos_till.specs.declared.entry.Entry.{Entry}
use Rattle.escpos_till.specs.declared.entry.Entry.TheVariants as entry
use Rattle.escpos_till.specs.Contents.{content_with}
use Rattle.sqlite.specs.declared.types.Value.TheVariants.{Int}
use Rattle.sqlite.specs.Order.{Row, column}
use Rattle.sqlite.specs.Tree.{Trees}
use Rattle.sqlite.specs.State.{State}
use Rattle.sqlite_trees.specs.Objects.{number_in}
use Rattle.sqlite_keyed.proofs.ListLemmas.{IsPermutation-filter}
use Rattle.sqlite.proofs.Callers.{one_permutation}
use Rattle.escpos_store.specs.Table.{replacement_number, row_of, rows_from, width_number}
use Rattle.escpos_store.specs.Holds.{HasEntries, Holds, Leaves}

same_width : (x y : ℕ) → width_number x ≡ width_number y → x ≡ y
same_width x y h = grind (arith, nat_tests)

same_replacement : (x y : Option ℕ) → replacement_number x ≡ replacement_number y → x ≡ y
same_replacement None None h = refl
same_replacement None (Some d) h = absurd (omega arith)
same_replacement (Some c) None h = absurd (omega arith)
same_replacement (Some c) (Some d) h = ap Some (omega arith)

same_number : (m n : ℕ) → Int (pos m) ≡ Int (pos n) → m ≡ n
same_number m n h = cc

same_content : (id : ℕ) (c d : Content) → row_of id (entry.Queued c) ≡ row_of id (entry.Queued d) → c ≡ d
same_content id c d h =
    let text : c.text ≡ d.text = cc in
    let number : Int (pos (width_number c.options.width)) ≡ Int (pos (width_number d.options.width)) = cc in
    let next : Int (pos (replacement_number c.options.replacement)) ≡ Int (pos (replacement_number d.options.replacement)) = cc in
    let width = same_width c.options.width d.options.width (same_number _ _ number) in
    let replacement = same_replacement c.options.replacement d.options.replacement (same_number _ _ next) in
    ap (λ (w : ℕ). let o : ReceiptOptions = record { width = w; replacement = c.options.replacement } in content_with o c.text) width
    ∙ ap (λ (r : Option ℕ). let o : ReceiptOptions = record { width = d.options.width; replacement = r } in content_with o c.text) replacement
    ∙ ap (content_with d.options) text

same_entry : (id : ℕ) (x y : Entry) → row_of id x ≡ row_of id y → x ≡ y
same_entry id (entry.Queued c) (entry.Queued d) h = ap entry.Queued (same_content id c d h)
same_entry id (entry.Queued c) (entry.Tried k l) h = absurd (cc)
same_entry id (entry.Queued c) (entry.Recorded k j) h = absurd (cc)
same_entry id (entry.Queued c) (entry.Raised k j) h = absurd (cc)
same_entry id (entry.Queued c) (entry.Cancelled k) h = absurd (cc)
same_entry id (entry.Queued c) (entry.Key l) h = absurd (cc)
same_entry id (entry.Queued c) (entry.Renewed k j) h = absurd (cc)
same_entry id (entry.Queued c) (entry.Earlier k l) h = absurd (cc)
same_entry id (entry.Tried n m) (entry.Queued d) h = absurd (cc)
same_entry id (entry.Tried n m) (entry.Tried k l) h = cc
same_entry id (entry.Tried n m) (entry.Recorded k j) h = absurd (cc)
same_entry id (entry.Tried n m) (entry.Raised k j) h = absurd (cc)
same_entry id (entry.Tried n m) (entry.Cancelled k) h = absurd (cc)
same_entry id (entry.Tried n m) (entry.Key l) h = absurd (cc)
same_entry id (entry.Tried n m) (entry.Renewed k j) h = absurd (cc)
same_entry id (entry.Tried n m) (entry.Earlier k l) h = absurd (cc)
same_entry id (entry.Recorded n i) (entry.Queued d) h = absurd (cc)
same_entry id (entry.Recorded n i) (entry.Tried k l) h = absurd (cc)
same_entry id (entry.Recorded n i) (entry.Recorded k j) h = cc
same_entry id (entry.Recorded n i) (entry.Raised k j) h = absurd (cc)
same_entry id (entry.Recorded n i) (entry.Cancelled k) h = absurd (cc)
same_entry id (entry.Recorded n i) (entry.Key l) h = absurd (cc)
same_entry id (entry.Recorded n i) (entry.Renewed k j) h = absurd (cc)
same_entry id (entry.Recorded n i) (entry.Earlier k l) h = absurd (cc)
same_entry id (entry.Raised m i) (entry.Queued d) h = absurd (cc)
same_entry id (entry.Raised m i) (entry.Tried k l) h = absurd (cc)
same_entry id (entry.Raised m i) (entry.Recorded k j) h = absurd (cc)
same_entry id (entry.Raised m i) (entry.Raised k j) h = cc
same_entry id (entry.Raised m i) (entry.Cancelled k) h = absurd (cc)
same_entry id (entry.Raised m i) (entry.Key l) h = absurd (cc)
same_entry id (entry.Raised m i) (entry.Renewed k j) h = absurd (cc)
same_entry id (entry.Raised m i) (entry.Earlier k l) h = absurd (cc)
same_entry id (entry.Cancelled n) (entry.Queued d) h = absurd (cc)
same_entry id (entry.Cancelled n) (entry.Tried k l) h = absurd (cc)
same_entry id (entry.Cancelled n) (entry.Recorded k j) h = absurd (cc)
same_entry id (entry.Cancelled n) (entry.Raised k j) h = absurd (cc)
same_entry id (entry.Cancelled n) (entry.Cancelled k) h = cc
same_entry id (entry.Cancelled n) (entry.Key l) h = absurd (cc)
same_entry id (entry.Cancelled n) (entry.Renewed k j) h = absurd (cc)
same_entry id (entry.Cancelled n) (entry.Earlier k l) h = absurd (cc)
same_entry id (entry.Key k) (entry.Queued d) h = absurd (cc)
same_entry id (entry.Key k) (entry.Tried k' l) h = absurd (cc)
same_entry id (entry.Key k) (entry.Recorded k' i) h = absurd (cc)
same_entry id (entry.Key k) (entry.Raised k' i) h = absurd (cc)
same_entry id (entry.Key k) (entry.Cancelled k') h = absurd (cc)
same_entry id (entry.Key k) (entry.Key l) h = ap entry.Key cc
same_entry id (entry.Key k) (entry.Renewed k' i) h = absurd (cc)
same_entry id (entry.Key k) (entry.Earlier k' l) h = absurd (cc)
same_entry id (entry.Renewed n i) (entry.Queued d) h = absurd (cc)
same_entry id (entry.Renewed n i) (entry.Tried k l) h = absurd (cc)
same_entry id (entry.Renewed n i) (entry.Recorded k j) h = absurd (cc)
same_entry id (entry.Renewed n i) (entry.Raised k j) h = absurd (cc)
same_entry id (entry.Renewed n i) (entry.Cancelled k) h = absurd (cc)
same_entry id (entry.Renewed n i) (entry.Key l) h = absurd (cc)
same_entry id (entry.Renewed n i) (entry.Renewed k j) h = cc
same_entry id (entry.Renewed n i) (entry.Earlier k l) h = absurd (cc)
same_entry id (entry.Earlier n j) (entry.Queued d) h = absurd (cc)
same_entry id (entry.Earlier n j) (entry.Tried k l) h = absurd (cc)
same_entry id (entry.Earlier n j) (entry.Recorded k m) h = absurd (cc)
same_entry id (entry.Earlier n j) (entry.Raised k m) h = absurd (cc)
same_entry id (entry.Earlier n j) (entry.Cancelled k) h = absurd (cc)
same_entry id (entry.Earlier n j) (entry.Key l) h = absurd (cc)
same_entry id (entry.Earlier n j) (entry.Renewed k m) h = absurd (cc)
same_entry id (entry.Earlier n j) (entry.Earlier k l) h = cc

abbrev pub has_id : ℕ → Row → Bool
has_id id row = number_in (column row 0) == id

not_yet : (id at : ℕ) → id < at → (at == id) ≡ false
not_yet id at below = grind (arith, nat_tests)

none_later : (id at : ℕ) (entries : List Entry) → id < at → filter (has_id id) (rows_from at entries) ≡ []
none_later id at [] below = refl
none_later id at (e ∷ entries) below = rw (not_yet id at below) (none_later id (at + 1) entries (omega arith))

all_later : (id at : ℕ) (entries : List Entry) → id < at → filter (λ r. not (has_id id r)) (rows_from at entries) ≡ rows_from at entries
all_later id at [] below = refl
all_later id at (e ∷ entries) below = rw (not_yet id at below) (ap (λ rest. row_of at e ∷ rest) (all_later id (at + 1) entries (omega arith)))

itself : (id : ℕ) → (id == id) ≡ true
itself id = grind (arith, nat_tests)

pub here : (id : ℕ) (e : Entry) (entries : List Entry) → filter (has_id id) (rows_from id (e ∷ entries)) ≡ row_of id e ∷ []
here id e entries = rw (itself id) (ap (λ rest. row_of id e ∷ rest) (none_later id (id + 1) entries (omega arith)))

pub others : (id : ℕ) (e : Entry) (entries : List Entry) → filter (λ r. not (has_id id r)) (rows_from id (e ∷ entries)) ≡ rows_from (id + 1) entries
others id e entries = rw (itself id) (all_later id (id + 1) entries (omega arith))

same_entries : (id : ℕ) (xs ys : List Entry) → IsPermutation (rows_from id xs) (rows_from id ys) → xs ≡ ys
same_entries id [] [] same = refl
same_entries id [] (y ∷ ys) same = absurd (omega (arith, length_permutation _ _ same))
same_entries id (x ∷ xs) [] same = absurd (omega (arith, length_permutation _ _ same))
same_entries id (x ∷ xs) (y ∷ ys) same =
    let first = subst₂ IsPermutation (here id x xs) (here id y ys) (IsPermutation-filter (has_id id) _ _ same) in
    let more = subst₂ IsPermutation (others id x xs) (others id y ys) (IsPermutation-filter (λ r. not (has_id id r)) _ _ same) in
    let row : row_of id x ≡ row_of id y = let one = one_permutation (row_of id x) (row_of id y ∷ []) first in cc in
    ap₂ ◌∷◌ (same_entry id x y row) (same_entries (id + 1) xs ys more)

-- a database has one list of entries
pub one_list : (db : Trees) (xs ys : List Entry) → HasEntries db xs → HasEntries db ys → xs ≡ ys
one_list db xs ys first second = same_entries 1 xs ys (IsPermutation-trans _ _ _ (IsPermutation-sym _ _ first.are) second.are)

pub held_once : (s : State) (xs ys : List Entry) → Holds s xs → Holds s ys → xs ≡ ys
held_once s xs ys first second = one_list s.now.trees xs ys first.has second.has

-- what a store holds outlives a crash
pub outlives : (s : State) (entries left : List Entry) → Holds s entries → Leaves s left → left ≡ entries
outlives s entries left held may = may.2 entries (held.crash may.0 may.1)
