-- What the computed test of an index says.
use Rattle.std.proofs.Common.{◌≡◌, ◌≢◌, ℕ, zero, suc, ◌<◌, ◌≤◌, true, ◌==◌, nat_lt, nat_le, cond, List, [], ◌∷◌, length, get_or, slice_index, sym, ap, ◌∙◌, arith, ltb-true, leb-true, le-ltb, eqb-true, ne_eqb, le_refl, Some, None, position, not-suc-le-zero, le_of_suc-le-suc}
use Rattle.std.proofs.lemmas.Bool.{and_parts}
use Rattle.std.proofs.lemmas.Grind.{get_or_default_zero}
use Rattle.std.proofs.lemmas.List.Sums.{AllPass-from_list_all, position_or_len_is}
use Rattle.std.proofs.lemmas.List.Folds.{Any-from_list_any}
use Rattle.std.specs.List.{list_any, list_all, position_or_len}
use Rattle.std.specs.List.Sorted.{IsNonDecreasing}
use Rattle.escpos_text.specs.Index.{ascends, are_first, is_index}

in_order : (xs : List ℕ) → ascends xs ≡ true → (i j : ℕ) → i ≤ j → j < length xs → get_or xs i 0 ≤ get_or xs j 0
unfolding ascends
in_order [] h i j le lt = absurd (not-suc-le-zero lt)
in_order (x ∷ xs) h zero zero le lt = le_refl x
in_order (x ∷ xs) h zero (suc j) le lt = leb-true _ _ (AllPass-from_list_all (λ y. nat_le x y) xs (and_parts _ _ h).0 j 0 (omega arith))
in_order (x ∷ xs) h (suc i) zero le lt = absurd (not-suc-le-zero le)
in_order (x ∷ xs) h (suc i) (suc j) le lt = in_order xs (and_parts _ _ h).1 i j (le_of_suc-le-suc le) (omega arith)

pub sorted-ascends : (characters sorted places : List ℕ) → is_index characters sorted places ≡ true → IsNonDecreasing sorted
unfolding is_index
sorted-ascends characters sorted places h i j d le lt =
    let up = in_order sorted (and_parts _ _ (and_parts _ _ h).1).0 i j le lt in
    let here = get_or_default_zero sorted i d (omega arith) in
    let there = get_or_default_zero sorted j d lt in
    rw (here, there) up

first-at : (characters sorted places : List ℕ) (i : ℕ) → are_first characters sorted places ≡ true → i < length sorted → (i < length places) × (position (λ x. x == slice_index sorted i) characters ≡ Some (slice_index places i)) × (slice_index places i < length characters)
unfolding are_first
first-at characters [] places i h lt = absurd (not-suc-le-zero lt)
first-at characters (c ∷ cs) [] i h lt = absurd (cc)
first-at characters (c ∷ cs) (p ∷ ps) zero h lt =
    let here = and_parts _ _ (and_parts _ _ h).0 in
    let e : position_or_len (λ x. x == c) characters ≡ p = eqb-true _ _ here.0 in
    (omega arith, ap (λ n. cond (nat_lt n (length characters)) (Some n) None) e ∙ ap (λ b. cond b (Some p) None) here.1, ltb-true _ _ here.1)
first-at characters (c ∷ cs) (p ∷ ps) (suc i) h lt =
    let rest = first-at characters cs ps i (and_parts _ _ h).1 (omega arith) in
    (let less = rest.0 in omega arith, rest.1, rest.2)

-- A place of the sorted characters leads to the first place in the table.
pub place-at : (characters sorted places : List ℕ) (i : ℕ) → is_index characters sorted places ≡ true → i < length sorted → (i < length places) × (position (λ x. x == slice_index sorted i) characters ≡ Some (slice_index places i)) × (slice_index places i < 128)
unfolding is_index
place-at characters sorted places i h lt =
    let parts = and_parts _ _ h in
    let at = first-at characters sorted places i (and_parts _ _ (and_parts _ _ parts.1).1).0 lt in
    let long : length characters ≡ 128 = eqb-true _ _ parts.0 in
    (at.0, at.1, omega (arith, at.2))

-- A character that isn't among the sorted ones isn't in the table.
pub place-none : (characters sorted places : List ℕ) (c : ℕ) → is_index characters sorted places ≡ true → ((k : ℕ) → k < length sorted → slice_index sorted k ≢ c) → position (λ x. x == c) characters ≡ None
unfolding is_index
place-none characters sorted places c h none =
    let parts = and_parts (length characters == 128) _ h in
    let rest = and_parts (ascends sorted) _ parts.1 in
    let whole : list_all (λ x. list_any (λ y. y == x) sorted) characters ≡ true = (and_parts (are_first characters sorted places) _ rest.1).1 in
    let differs : (k : ℕ) → k < length characters → get_or characters k 0 ≢ c = λ k lt same.
    let any = Any-from_list_any (λ y. y == get_or characters k 0) sorted (AllPass-from_list_all (λ x. list_any (λ y. y == x) sorted) characters whole k 0 lt) in
    none any.0 any.2 (sym (get_or_default_zero sorted any.0 any.1 any.2) ∙ any.3 ∙ eqb-true _ _ any.4 ∙ same) in
    let n = length characters in
    let e : position_or_len (λ x. x == c) characters ≡ n = position_or_len_is (λ x. x == c) characters n 0 (le_refl n) (λ k lt. ne_eqb _ _ (differs k lt)) (λ lt. absurd (omega arith)) in
    ap (λ i. cond (nat_lt i n) (Some i) None) e ∙ ap (λ b. cond b (Some n) None) (le-ltb n n (le_refl n))
