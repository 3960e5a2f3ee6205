-- Which rows fit.
use Rattle.std.proofs.Common.{◌≡◌, ℕ, ◌+◌, ◌≤◌, ◌<◌, ◌⊎◌, inl, inr, List, [], ◌∷◌, ◌++◌, length, refl, subst, sym, arith, Bool, true, false, None}
use Rattle.std.specs.Prelude.{◌||◌, ◌&&◌, max, nat_le}
use Rattle.std.specs.List.{AllByRecursion}
use Rattle.std.proofs.lemmas.Bool.{leb-true, le-leb, lt-leb}
use Rattle.std.proofs.lemmas.List.Sums.{sum_by-append, sum_by-cons}
use Rattle.std.proofs.Math.Seq.{append_snoc}
use Rattle.escpos_command.specs.declared.line_width.TheConstants.{MOST_LINE_DOTS}
use Rattle.escpos_command.proofs.Combinators.{and_left, and_right, both}
use Rattle.escpos_paper.specs.declared.cell.Cell.{Cell}
use Rattle.escpos_paper.specs.Cells.{cell_dots, dots, end_after, reach_of, reach_after, right_of}
use Rattle.escpos_paper.specs.Rows.{fits, is_alone}

either_true : (a b : Bool) → (a || b) ≡ true → (a ≡ true) ⊎ (b ≡ true)
either_true true b h = inl h
either_true false b h = inr h

first_true : (a b : Bool) → a ≡ true → (a || b) ≡ true
first_true true b h = h
first_true false b h = absurd cc

second_true : (a b : Bool) → b ≡ true → (a || b) ≡ true
second_true true b h = refl
second_true false b h = h

both_false : (a b : Bool) → a ≡ false → b ≡ false → (a || b) ≡ false
both_false true b h k = h
both_false false b h k = k

first_false : (a b : Bool) → a ≡ false → (a && b) ≡ false
first_false true b h = absurd cc
first_false false b h = refl

second_false : (a b : Bool) → b ≡ false → (a && b) ≡ false
second_false true b h = h
second_false false b h = refl

-- ## How far cells reach

-- More cells reach further.
pub reach_grows : (end : ℕ) (xs ys : List Cell) → reach_after end xs ≤ reach_after end (xs ++ ys)
reach_grows end [] ys = omega arith
reach_grows end (x ∷ xs) ys = let rest = reach_grows (right_of end x) xs ys in omega (arith, rest)

-- One more cell reaches as far as its right edge.
pub reach_with : (end : ℕ) (xs : List Cell) (x : Cell) → reach_after end (xs ++ x ∷ []) ≡ max (reach_after end xs) (right_of (end_after end xs) x)
reach_with end [] x = omega arith
reach_with end (y ∷ xs) x = let rest = reach_with (right_of end y) xs x in omega (arith, rest)

pub end_with : (end : ℕ) (xs : List Cell) (x : Cell) → end_after end (xs ++ x ∷ []) ≡ right_of (end_after end xs) x
end_with end [] x = refl
end_with end (y ∷ xs) x = end_with (right_of end y) xs x

-- Cells that follow one another.
abbrev pub Follows : Cell → Type 0
Follows x = x.moved ≡ None

right_edge : (end : ℕ) (x : Cell) → Follows x → right_of end x ≡ end + cell_dots x
right_edge end x h = rw h refl

pub end_together : (end : ℕ) (xs ys : List Cell) → AllByRecursion Follows ys → end_after end (xs ++ ys) ≡ end_after end xs + dots ys
end_together end [] [] h = omega arith
end_together end [] (y ∷ ys) h =
    let rest = end_together (right_of end y) [] ys h.1 in
    omega (arith, rest, right_edge end y h.0, sum_by-cons cell_dots y ys)
end_together end (x ∷ xs) ys h = end_together (right_of end x) xs ys h

-- They reach as far as they are wide.
pub reach_together : (end : ℕ) (ys : List Cell) → AllByRecursion Follows ys → reach_after end ys ≤ end + dots ys
reach_together end [] h = omega arith
reach_together end (y ∷ ys) h =
    let rest = reach_together (right_of end y) ys h.1 in
    omega (arith, rest, right_edge end y h.0, sum_by-cons cell_dots y ys)

pub reach_on : (end : ℕ) (xs ys : List Cell) → AllByRecursion Follows ys → reach_after end (xs ++ ys) ≤ max (reach_after end xs) (end_after end xs + dots ys)
reach_on end [] ys h = let all = reach_together end ys h in omega (arith, all)
reach_on end (x ∷ xs) ys h = let rest = reach_on (right_of end x) xs ys h in omega (arith, rest)

-- ## Fitting

-- What fits is one cell alone, or reaches no further than the width.
pub record Within (width : ℕ) (row : List Cell) : Type 0 where
  pub reaches : reach_of row ≤ width
  pub few : dots row ≤ max width MOST_LINE_DOTS

pub fit_means : (width : ℕ) (row : List Cell) → fits width row ≡ true → (is_alone row ≡ true) ⊎ Within width row
fit_means width row h = elim (either_true (is_alone row) (nat_le (reach_of row) width && nat_le (dots row) (max width MOST_LINE_DOTS)) h) [
  | inl alone ↦ inl alone
  | inr narrow ↦
      inr (record {
        reaches = leb-true _ _ (and_left (nat_le (reach_of row) width) (nat_le (dots row) (max width MOST_LINE_DOTS)) narrow);
        few = leb-true _ _ (and_right (nat_le (reach_of row) width) (nat_le (dots row) (max width MOST_LINE_DOTS)) narrow);
      })
]

pub alone_fits : (width : ℕ) (row : List Cell) → is_alone row ≡ true → fits width row ≡ true
alone_fits width row alone = first_true (is_alone row) (nat_le (reach_of row) width && nat_le (dots row) (max width MOST_LINE_DOTS)) alone

pub within_fits : (width : ℕ) (row : List Cell) → Within width row → fits width row ≡ true
within_fits width row w =
    second_true (is_alone row) (nat_le (reach_of row) width && nat_le (dots row) (max width MOST_LINE_DOTS)) (both _ _ (le-leb _ _ w.reaches) (le-leb _ _ w.few))

pub too_far : (width : ℕ) (row : List Cell) → is_alone row ≡ false → width < reach_of row → fits width row ≡ false
too_far width row many far =
    both_false (is_alone row) (nat_le (reach_of row) width && nat_le (dots row) (max width MOST_LINE_DOTS)) many
    (first_false (nat_le (reach_of row) width) (nat_le (dots row) (max width MOST_LINE_DOTS)) (lt-leb _ _ far))

pub too_many : (width : ℕ) (row : List Cell) → is_alone row ≡ false → max width MOST_LINE_DOTS < dots row → fits width row ≡ false
too_many width row many wide =
    both_false (is_alone row) (nat_le (reach_of row) width && nat_le (dots row) (max width MOST_LINE_DOTS)) many
    (second_false (nat_le (reach_of row) width) (nat_le (dots row) (max width MOST_LINE_DOTS)) (lt-leb _ _ wide))

-- Cells that follow one another fit if there is one of them, or if they aren't wider than the line.
alone_where_few : (row : List Cell) → AllByRecursion Follows row → length row ≤ 1 → is_alone row ≡ true
alone_where_few [] h few = refl
alone_where_few (x ∷ []) h few = rw h.0 refl
alone_where_few (x ∷ y ∷ row) h few = absurd (omega arith)

pub one_fits : (width : ℕ) (row : List Cell) → AllByRecursion Follows row → length row ≤ 1 → fits width row ≡ true
one_fits width row h few = alone_fits width row (alone_where_few row h few)

pub narrow_fits : (width : ℕ) (row : List Cell) → AllByRecursion Follows row → dots row ≤ width → fits width row ≡ true
narrow_fits width row h narrow =
    within_fits width row (record { reaches = (let far = reach_together 0 row h in omega (arith, far, narrow)); few = omega (arith, narrow) })

-- ## The front of a row

front_alone : (row more : List Cell) → is_alone (row ++ more) ≡ true → is_alone row ≡ true
front_alone [] more h = refl
front_alone (x ∷ []) [] h = h
front_alone (x ∷ []) (y ∷ more) h = absurd cc
front_alone (x ∷ y ∷ row) more h = absurd cc

-- The front of a row that fits, fits.
pub front_fits : (width : ℕ) (row more : List Cell) → fits width (row ++ more) ≡ true → fits width row ≡ true
front_fits width row more h = elim (fit_means width (row ++ more) h) [
  | inl alone ↦ alone_fits width row (front_alone row more alone)
  | inr w ↦
      within_fits width row (record {
        reaches = (let far = w.reaches in let grows = reach_grows 0 row more in omega (arith, far, grows));
        few = (let few = w.few in omega (arith, few, sum_by-append cell_dots row more));
      })
]

pub prefix_fits : (width : ℕ) (row : List Cell) (x : Cell) (more : List Cell) → fits width (row ++ x ∷ more) ≡ true → fits width (row ++ x ∷ []) ≡ true
prefix_fits width row x more h = front_fits width (row ++ x ∷ []) more (subst (λ r. fits width r ≡ true) (sym (append_snoc row x more)) h)

-- What fits into a line fits into a wider one.
pub wider_fits : (width wider : ℕ) (row : List Cell) → width ≤ wider → fits width row ≡ true → fits wider row ≡ true
wider_fits width wider row more h = elim (fit_means width row h) [
  | inl one ↦ alone_fits wider row one
  | inr w ↦ within_fits wider row (record { reaches = (let far = w.reaches in omega (arith, far, more)); few = (let few = w.few in omega (arith, few, more)) })
]
