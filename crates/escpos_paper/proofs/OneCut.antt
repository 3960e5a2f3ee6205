-- There is one cut of the entries of a line into rows.
use Rattle.std.proofs.Common.{◌≡◌, ◌≢◌, ℕ, List, [], ◌∷◌, ◌++◌, take, refl, sym, ◌∙◌, ap, subst, append-nil, Bool, true, false, cond, not, ◌&&◌}
use Rattle.std.specs.Prelude.{flat_map}
use Rattle.std.specs.List.{AllByRecursion, list_all}
use Rattle.std.proofs.lemmas.Bool.{and_from}
use Rattle.std.proofs.Math.Seq.{append_snoc}
use Rattle.escpos_paper.specs.Cells.{Entry}
use Rattle.escpos_paper.specs.Rows.{IsCut, row_fits, are_full}
use Rattle.escpos_paper.proofs.Entries.{prefix_fits, one_entry_fits}
use Rattle.escpos_paper.proofs.Filled.{filled_from, filled}

-- ## The tests of a cut as equations

abbrev IsRow : ℕ → List Entry → Type 0
IsRow w row = (row ≢ []) × (row_fits w row ≡ true)

abbrev AreFull : ℕ → List (List Entry) → Type 0
AreFull w [] = Unit {0}
AreFull w (row ∷ []) = Unit {0}
AreFull w (row ∷ next ∷ rows) = (row_fits w (row ++ take 1 next) ≡ false) × AreFull w (next ∷ rows)

-- What `IsCut` says, as equations for each row in place of tests of all.
record MeansCut (w : ℕ) (xs : List Entry) (rows : List (List Entry)) : Type 0 where
  pub joined : flat_map (λ row. row) rows ≡ xs
  pub each : AllByRecursion (IsRow w) rows
  pub full : AreFull w rows

not_true : (b : Bool) → not b ≡ true → b ≡ false
not_true true h = absurd cc
not_true false h = refl

from_false : (b : Bool) → b ≡ false → not b ≡ true
from_false true h = absurd cc
from_false false h = refl

left_of : (a b : Bool) → (a && b) ≡ true → a ≡ true
left_of true b h = refl
left_of false b h = h

right_of : (a b : Bool) → (a && b) ≡ true → b ≡ true
right_of true b h = h
right_of false b h = absurd cc

rows_mean : (w : ℕ) (rows : List (List Entry)) → AllByRecursion (λ row. row ≢ []) rows → list_all (row_fits w) rows ≡ true → AllByRecursion (IsRow w) rows
rows_mean w [] h fit = tt
rows_mean w (row ∷ rows) h fit =
    ((h.0, left_of (row_fits w row) (list_all (row_fits w) rows) fit), rows_mean w rows h.1 (right_of (row_fits w row) (list_all (row_fits w) rows) fit))

full_means : (w : ℕ) (rows : List (List Entry)) → are_full w rows ≡ true → AreFull w rows
full_means w [] h = tt
full_means w (row ∷ []) h = tt
full_means w (row ∷ next ∷ rows) h = (
  not_true (row_fits w (row ++ take 1 next)) (left_of (not (row_fits w (row ++ take 1 next))) (are_full w (next ∷ rows)) h),
  full_means w (next ∷ rows) (right_of (not (row_fits w (row ++ take 1 next))) (are_full w (next ∷ rows)) h),
)

means_cut : (w : ℕ) (xs : List Entry) (rows : List (List Entry)) → IsCut w xs rows → MeansCut w xs rows
means_cut w xs rows h = record {
  joined = h.joined;
  each = rows_mean w rows h.each (left_of (list_all (row_fits w) rows) (are_full w rows) h.at_width);
  full = full_means w rows (right_of (list_all (row_fits w) rows) (are_full w rows) h.at_width);
}

each_from : (w : ℕ) (rows : List (List Entry)) → AllByRecursion (IsRow w) rows → AllByRecursion (λ row. row ≢ []) rows
each_from w [] h = tt
each_from w (row ∷ rows) h = (h.0.0, each_from w rows h.1)

fits_from : (w : ℕ) (rows : List (List Entry)) → AllByRecursion (IsRow w) rows → list_all (row_fits w) rows ≡ true
fits_from w [] h = refl
fits_from w (row ∷ rows) h = and_from (row_fits w row) (list_all (row_fits w) rows) h.0.1 (fits_from w rows h.1)

full_from : (w : ℕ) (rows : List (List Entry)) → AreFull w rows → are_full w rows ≡ true
full_from w [] h = refl
full_from w (row ∷ []) h = refl
full_from w (row ∷ next ∷ rows) h =
    and_from (not (row_fits w (row ++ take 1 next))) (are_full w (next ∷ rows)) (from_false (row_fits w (row ++ take 1 next)) h.0) (full_from w (next ∷ rows) h.1)

is_cut_from : (w : ℕ) (xs : List Entry) (rows : List (List Entry)) → MeansCut w xs rows → IsCut w xs rows
is_cut_from w xs rows h = record {
  joined = h.joined;
  each = each_from w rows h.each;
  at_width = and_from (list_all (row_fits w) rows) (are_full w rows) (fits_from w rows h.each) (full_from w rows h.full);
}

-- ## Existence

not_nothing : (row : List Entry) (x : Entry) → row ++ x ∷ [] ≢ []
not_nothing [] x e = absurd cc
not_nothing (y ∷ row) x e = absurd cc

-- The first row begins with what was in the line.
pub record Begins (row : List Entry) (found : List (List Entry)) : Type 0 where
  pub more : List Entry
  pub rest : List (List Entry)
  pub is : found ≡ (row ++ more) ∷ rest

begins_longer : (row : List Entry) (x : Entry) (found : List (List Entry)) → Begins (row ++ x ∷ []) found → Begins row found
begins_longer row x found b =
    record { more = x ∷ b.more; rest = b.rest; is = b.is ∙ ap (λ r. r ∷ b.rest) (append_snoc row x b.more) }

begins : (w : ℕ) (row xs : List Entry) → Begins row (filled_from w row xs)
begins w row [] = record { more = []; rest = []; is = ap (λ r. r ∷ []) (sym (append-nil row)) }
begins w row (x ∷ xs) =
    elim (row_fits w (row ++ x ∷ [])) as (λ v. Begins row (cond v (filled_from w (row ++ x ∷ []) xs) (row ∷ filled_from w (x ∷ []) xs))) [
      | true ↦ begins_longer row x (filled_from w (row ++ x ∷ []) xs) (begins w (row ++ x ∷ []) xs)
      | false ↦ record { more = []; rest = filled_from w (x ∷ []) xs; is = ap (λ r. r ∷ filled_from w (x ∷ []) xs) (sym (append-nil row)) }
    ]

full_cons : (w : ℕ) (row : List Entry) (x : Entry) (found : List (List Entry)) → Begins (x ∷ []) found → row_fits w (row ++ x ∷ []) ≡ false → AreFull w found
    → AreFull w (row ∷ found)
full_cons w row x found b wide full =
    subst (λ rs. AreFull w (row ∷ rs)) (sym b.is) (wide, subst (AreFull w) b.is full)

joined_longer : (w : ℕ) (row : List Entry) (x : Entry) (xs : List Entry) → MeansCut w ((row ++ x ∷ []) ++ xs) (filled_from w (row ++ x ∷ []) xs)
    → MeansCut w (row ++ x ∷ xs) (filled_from w (row ++ x ∷ []) xs)
joined_longer w row x xs h = subst (λ t. MeansCut w t (filled_from w (row ++ x ∷ []) xs)) (append_snoc row x xs) h

begins_anew : (w : ℕ) (row : List Entry) (x : Entry) (xs : List Entry) → IsRow w row → row_fits w (row ++ x ∷ []) ≡ false → MeansCut w (x ∷ xs) (filled_from w (x ∷ []) xs)
    → MeansCut w (row ++ x ∷ xs) (row ∷ filled_from w (x ∷ []) xs)
begins_anew w row x xs r wide rest = record {
  joined = ap (λ t. row ++ t) rest.joined;
  each = (r, rest.each);
  full = full_cons w row x (filled_from w (x ∷ []) xs) (begins w (x ∷ []) xs) wide rest.full;
}

-- What filling makes of a row and one more entry x, by whether it fits.
by_fit : (w : ℕ) (row : List Entry) (x : Entry) (xs : List Entry) (b : Bool) → row_fits w (row ++ x ∷ []) ≡ b
    → (b ≡ true → MeansCut w (row ++ x ∷ xs) (filled_from w (row ++ x ∷ []) xs)) → (b ≡ false → MeansCut w (row ++ x ∷ xs) (row ∷ filled_from w (x ∷ []) xs))
    → MeansCut w (row ++ x ∷ xs) (cond b (filled_from w (row ++ x ∷ []) xs) (row ∷ filled_from w (x ∷ []) xs))
by_fit w row x xs true e fit over = fit refl
by_fit w row x xs false e fit over = over refl

filled_from_means : (w : ℕ) (row xs : List Entry) → IsRow w row → MeansCut w (row ++ xs) (filled_from w row xs)
filled_from_means w row [] r = record { joined = refl; each = (r, tt); full = tt }
filled_from_means w row (x ∷ xs) r =
    by_fit w row x xs (row_fits w (row ++ x ∷ [])) refl
    (λ e. joined_longer w row x xs (filled_from_means w (row ++ x ∷ []) xs (not_nothing row x, e)))
    (λ e. begins_anew w row x xs r e (filled_from_means w (x ∷ []) xs (not_nothing [] x, one_entry_fits w x)))

filled_means : (w : ℕ) (xs : List Entry) → MeansCut w xs (filled w xs)
filled_means w [] = record { joined = refl; each = tt; full = tt }
filled_means w (x ∷ xs) = filled_from_means w (x ∷ []) xs (not_nothing [] x, one_entry_fits w x)

-- So filling finds the cut of any entries.
pub is_cut : (w : ℕ) (xs : List Entry) → IsCut w xs (filled w xs)
is_cut w xs = is_cut_from w xs (filled w xs) (filled_means w xs)

-- ## Uniqueness

-- Where two lists begin the same list, they are equal or one of them is longer.
pub data Seam (a b c d : List Entry) : Type 0 where
  same : a ≡ c → b ≡ d → Seam a b c d
  shorter : (x : Entry) (more : List Entry) → c ≡ a ++ x ∷ more → b ≡ x ∷ more ++ d → Seam a b c d
  longer : (x : Entry) (more : List Entry) → a ≡ c ++ x ∷ more → d ≡ x ∷ more ++ b → Seam a b c d

seam_cons : (x y : Entry) (a b c d : List Entry) → x ≡ y → Seam a b c d → Seam (x ∷ a) b (y ∷ c) d
seam_cons x y a b c d e (same p q) = same (cc) q
seam_cons x y a b c d e (shorter z more p q) = shorter z more (cc) q
seam_cons x y a b c d e (longer z more p q) = longer z more (cc) q

first_same : (x y : Entry) (xs ys : List Entry) → x ∷ xs ≡ y ∷ ys → x ≡ y
first_same x y xs ys e = cc

rest_same : (x y : Entry) (xs ys : List Entry) → x ∷ xs ≡ y ∷ ys → xs ≡ ys
rest_same x y xs ys e = cc

seam : (a b c d : List Entry) → a ++ b ≡ c ++ d → Seam a b c d
seam [] b [] d e = same refl e
seam [] b (y ∷ c) d e = shorter y c refl e
seam (x ∷ a) b [] d e = longer x a refl (sym e)
seam (x ∷ a) b (y ∷ c) d e =
    seam_cons x y a b c d (first_same x y (a ++ b) (c ++ d) e) (seam a b c d (rest_same x y (a ++ b) (c ++ d) e))

-- A row of one cut isn't a prefix of a longer row in another.
no_shorter : (w : ℕ) (row other : List Entry) (rest : List (List Entry)) (x : Entry) (more d : List Entry)
    → AreFull w (row ∷ rest) → AllByRecursion (IsRow w) rest → row_fits w other ≡ true → other ≡ row ++ x ∷ more → flat_map (λ r. r) rest ≡ x ∷ more ++ d → ⊥
no_shorter w row other [] x more d full each narrow e f = absurd cc
no_shorter w row other ([] ∷ rest) x more d full each narrow e f = each.0.0 refl
no_shorter w row other ((y ∷ next) ∷ rest) x more d full each narrow e f =
    let same_first : y ≡ x = first_same y x (next ++ flat_map (λ r. r) rest) (more ++ d) f in
    let wide : row_fits w (row ++ x ∷ []) ≡ false = subst (λ z. row_fits w (row ++ z ∷ []) ≡ false) same_first full.0 in
    let short : row_fits w (row ++ x ∷ []) ≡ true = prefix_fits w row x more (subst (λ r. row_fits w r ≡ true) e narrow) in
    let no : true ≡ false = sym short ∙ wide in
    absurd cc

tail_cut : (w : ℕ) (xs row : List Entry) (rest : List (List Entry)) → MeansCut w xs (row ∷ rest) → MeansCut w (flat_map (λ r. r) rest) rest
tail_cut w xs row [] h = record { joined = refl; each = tt; full = tt }
tail_cut w xs row (next ∷ rest) h = record { joined = refl; each = h.each.1; full = h.full.1 }

one_meaning : (w : ℕ) (xs : List Entry) (found others : List (List Entry)) → MeansCut w xs found → MeansCut w xs others → found ≡ others
one_meaning w xs [] [] h k = refl
one_meaning w xs [] ([] ∷ others) h k = absurd (k.each.0.0 refl)
one_meaning w xs [] ((x ∷ row) ∷ others) h k = absurd (let no : [] ≡ x ∷ (row ++ flat_map (λ r. r) others) = h.joined ∙ sym k.joined in cc)
one_meaning w xs ([] ∷ found) [] h k = absurd (h.each.0.0 refl)
one_meaning w xs ((x ∷ row) ∷ found) [] h k = absurd (let no : [] ≡ x ∷ (row ++ flat_map (λ r. r) found) = k.joined ∙ sym h.joined in cc)
one_meaning w xs (row ∷ found) (other ∷ others) h k =
    elim (seam row (flat_map (λ r. r) found) other (flat_map (λ r. r) others) (h.joined ∙ sym k.joined)) [
      | same p q ↦
          let rest : found ≡ others =
          one_meaning w (flat_map (λ r. r) found) found others (tail_cut w xs row found h)
          (subst (λ t. MeansCut w t others) (sym q) (tail_cut w xs other others k)) in
          cc
      | shorter x more p q ↦ absurd (no_shorter w row other found x more (flat_map (λ r. r) others) h.full h.each.1 k.each.0.1 p q)
      | longer x more p q ↦ absurd (no_shorter w other row others x more (flat_map (λ r. r) found) k.full k.each.1 h.each.0.1 p q)
    ]

pub one_cut : (w : ℕ) (xs : List Entry) (found others : List (List Entry)) → IsCut w xs found → IsCut w xs others → found ≡ others
one_cut w xs found others h k = one_meaning w xs found others (means_cut w xs found h) (means_cut w xs others k)
