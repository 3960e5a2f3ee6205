-- What holds of all elements of a table's patterns holds of all that are drawn of them.
use Rattle.std.proofs.Common.{◌≡◌, ℕ, List, [], ◌∷◌, refl, true, Bool}
use Rattle.std.specs.Prelude.{◌&&◌, flat_map}
use Rattle.std.specs.List.{list_all}
use Rattle.std.proofs.lemmas.Bool.{and_parts, and_from}
use Rattle.escpos_barcode.specs.Elements.{spaced, interleaved, pairs}
use Rattle.escpos_barcode.specs.Tables.{row, itf_digits}
use Rattle.escpos_barcode.proofs.Lookups.{all_append}
use Rattle.escpos_barcode.proofs.Rows.{row_all}

module _ (p : ℕ → Bool) (one : p 1 ≡ true) where
  pub flat_all : (f : ℕ → List ℕ) (xs : List ℕ) → ((x : ℕ) → list_all p (f x) ≡ true) → list_all p (flat_map f xs) ≡ true
  flat_all f [] h = refl
  flat_all f (x ∷ xs) h = all_append p (f x) (flat_map f xs) (h x) (flat_all f xs h)

  pub rows_all : (table : List (ℕ × List ℕ)) (ss : List ℕ) → list_all (λ r. list_all p r.1) table ≡ true → list_all p (flat_map (row table) ss) ≡ true
  rows_all table ss h = flat_all (row table) ss (λ s. row_all (list_all p) table s refl h)

  pub spaced_all : (table : List (ℕ × List ℕ)) (ss : List ℕ) → list_all (λ r. list_all p r.1) table ≡ true → list_all p (spaced table ss) ≡ true
  spaced_all table [] h = refl
  spaced_all table (s ∷ ss) h =
      all_append p (row table s) (flat_map (λ t. 1 ∷ row table t) ss) (row_all (list_all p) table s refl h)
      (flat_all (λ t. 1 ∷ row table t) ss (λ t. and_from (p 1) (list_all p (row table t)) one (row_all (list_all p) table t refl h)))

  interleaved_all : (xs ys : List ℕ) → list_all p xs ≡ true → list_all p ys ≡ true → list_all p (interleaved xs ys) ≡ true
  interleaved_all [] ys h k = refl
  interleaved_all (x ∷ xs) [] h k = refl
  interleaved_all (x ∷ xs) (y ∷ ys) h k =
      let first = and_parts (p x) (list_all p xs) h in
      let second = and_parts (p y) (list_all p ys) k in
      and_from (p x) (p y && list_all p (interleaved xs ys)) first.0
      (and_from (p y) (list_all p (interleaved xs ys)) second.0 (interleaved_all xs ys first.1 second.1))

  pub pairs_all : (bs : List ℕ) → list_all (λ r. list_all p r.1) itf_digits ≡ true → list_all p (pairs bs) ≡ true
  pairs_all [] h = refl
  pairs_all (a ∷ []) h = refl
  pairs_all (a ∷ b ∷ bs) h =
      all_append p (interleaved (row itf_digits a) (row itf_digits b)) (pairs bs)
      (interleaved_all (row itf_digits a) (row itf_digits b) (row_all (list_all p) itf_digits a refl h) (row_all (list_all p) itf_digits b refl h))
      (pairs_all bs h)
