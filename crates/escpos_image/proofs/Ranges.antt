-- One more number of a range, and what is made of the numbers of a range.
use Rattle.std.proofs.Common.{◌≡◌, ℕ, ◌+◌, ◌-◌, ◌*◌, ◌/◌, ◌≤◌, List, [], ◌∷◌, ◌++◌, length, take, drop, map, flat_map, sum, refl, sym, ap, ◌∙◌, arith}
use Rattle.std.proofs.Math.Nat.{div-le_of_le-mul}
use Rattle.std.specs.List.{range_with_len}
use Rattle.std.proofs.lemmas.List.{map-id, flat_map_more, length-take, length-drop}
use Rattle.std.proofs.lemmas.List.FromFn.{map-range_with_len_more, sum_by-map-range_with_len_more}

pub range_more : (a n : ℕ) → range_with_len a (n + 1) ≡ range_with_len a n ++ (a + n) ∷ []
range_more a n =
    sym (map-id (range_with_len a (n + 1))) ∙ map-range_with_len_more (λ (x : ℕ). x) a n (a + n) refl
    ∙ ap (λ xs. xs ++ (a + n) ∷ []) (map-id (range_with_len a n))

pub flat_map_range : {X : Type 0} (f : ℕ → List X) (a n : ℕ) → flat_map f (range_with_len a n) ++ f (a + n) ≡ flat_map f (range_with_len a (n + 1))
flat_map_range f a n = flat_map_more f [] (range_with_len a n) (a + n) ∙ ap (flat_map f) (sym (range_more a n))

-- The same from 0 on.
pub flat_map_front : {X : Type 0} (f : ℕ → List X) (n : ℕ) → flat_map f (range_with_len 0 n) ++ f n ≡ flat_map f (range_with_len 0 (n + 1))
flat_map_front f n =
    let e : n ≡ 0 + n = omega arith in
    ap (λ k. flat_map f (range_with_len 0 n) ++ f k) e ∙ flat_map_range f 0 n

pub sum_range : (f : ℕ → ℕ) (a n : ℕ) → sum (map f (range_with_len a (n + 1))) ≡ sum (map f (range_with_len a n)) + f (a + n)
sum_range f a n = sum_by-map-range_with_len_more (λ (x : ℕ). x) f a n (a + n) refl

-- How long a part of a list is.
pub length_part : (xs : List ℕ) (start end : ℕ) → start ≤ end → end ≤ length xs → length (take (end - start) (drop start xs)) ≡ end - start
length_part xs start end order within = simp (length-take, length-drop) (omega arith)

-- One more row of a box: no gray value is above `most`.
pub more_rows : (total part rows most : ℕ) → total ≤ rows * most → part ≤ most → total + part ≤ (rows + 1) * most
more_rows total part rows most h p = omega arith

pub mean_small : (total wide high : ℕ) → total ≤ high * (255 * wide) → total / (wide * high) ≤ 255
mean_small total wide high h = div-le_of_le-mul (wide * high) (omega arith)
