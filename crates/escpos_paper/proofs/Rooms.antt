-- One more cell where the next one stands, and characters after the last: what the counts of a line become.
use Rattle.std.proofs.Common.{◌≡◌, ℕ, ◌+◌, ◌*◌, ◌≤◌, ◌<◌, inl, inr, List, [], ◌∷◌, ◌++◌, length, length-append, map, refl, ◌∙◌, ap, arith, Bool, true, false, Option, None, Some}
use Rattle.std.specs.Prelude.{◌&&◌, ◌||◌, max, nat_le, IsTrue, if◌then◌else◌}
use Rattle.std.proofs.Math.Nat.{mul-le-mul, mul-le-mul_right, mul_comm}
use Rattle.std.proofs.lemmas.List.{length-map}
use Rattle.std.proofs.Math.Seq.{append_snoc}
use Rattle.std.proofs.lemmas.List.Sums.{sum_by-append, sum_by-cons}
use Rattle.escpos_command.specs.declared.line_width.TheConstants.{MOST_LINE_DOTS}
use Rattle.escpos_command.specs.declared.parameter.choices.FontFace.{FontFace}
use Rattle.escpos_command.specs.declared.parameter.choices.FontFace.TheVariants.{A, B}
use Rattle.escpos_paper.specs.declared.cell.Cell.{Cell}
use Rattle.escpos_paper.specs.declared.cell.TheConstants.{LINE_CELLS}
use Rattle.escpos_paper.specs.declared.style.Style.{Style}
use Rattle.escpos_paper.specs.Cells.{Placed, cell, cell_dots, dots, end_of, next_place, placed_cell, reach_of}
use Rattle.escpos_paper.specs.Dots.{face_dots, face_rows, narrow_dots, style_dots}
use Rattle.escpos_paper.specs.Rows.{fits, is_alone}
use Rattle.escpos_paper.specs.Steps.{has_room, with_next}
use Rattle.escpos_paper.specs.Styles.{is_empty}
use Rattle.escpos_paper.proofs.Fits.{end_with, fit_means, reach_with}
use Rattle.escpos_paper.proofs.TextRuns.{dots_with_text}

-- ## One more cell

pub dots_with_next : (p : Placed) (x : Cell) → dots (with_next p x) ≡ dots p.cells + cell_dots x
dots_with_next p x = let all = sum_by-append cell_dots p.cells (placed_cell p.moved x ∷ []) in let one = sum_by-cons cell_dots (placed_cell p.moved x) [] in omega (arith, all, one)

pub end_with_next : (p : Placed) (x : Cell) → end_of (with_next p x) ≡ next_place p + cell_dots x
end_with_next p x = end_with 0 p.cells (placed_cell p.moved x)

pub reach_with_next : (p : Placed) (x : Cell) → reach_of (with_next p x) ≡ max (reach_of p.cells) (next_place p + cell_dots x)
reach_with_next p x = reach_with 0 p.cells (placed_cell p.moved x)

pub length_with_next : (p : Placed) (x : Cell) → length (with_next p x) ≡ length p.cells + 1
length_with_next p x = omega (arith, length-append p.cells (placed_cell p.moved x ∷ []))

-- Whether there is room for it, by the counts.
beside : (row : List Cell) (m : Option ℕ) (x : Cell) → is_empty row ≡ false → is_alone (row ++ placed_cell m x ∷ []) ≡ false
beside [] m x h = absurd cc
beside (y ∷ []) m x h = refl
beside (y ∷ z ∷ row) m x h = refl

or_false : (a b : Bool) → a ≡ false → (a || b) ≡ b
or_false true b h = absurd cc
or_false false b h = refl

by_counts : (area : ℕ) (p : Placed) (x : Cell) → area ≤ MOST_LINE_DOTS → is_alone (with_next p x) ≡ false
    → has_room area p x ≡ (nat_le (max (reach_of p.cells) (next_place p + cell_dots x)) area && nat_le (dots p.cells + cell_dots x) MOST_LINE_DOTS)
by_counts area p x narrow other =
    let most : max area MOST_LINE_DOTS ≡ MOST_LINE_DOTS = omega (arith, narrow) in
    or_false (is_alone (with_next p x)) (nat_le (reach_of (with_next p x)) area && nat_le (dots (with_next p x)) (max area MOST_LINE_DOTS)) other
    ∙ ap (λ n. nat_le n area && nat_le (dots (with_next p x)) (max area MOST_LINE_DOTS)) (reach_with_next p x)
    ∙ ap (λ n. nat_le (max (reach_of p.cells) (next_place p + cell_dots x)) area && nat_le n (max area MOST_LINE_DOTS)) (dots_with_next p x)
    ∙ ap (λ n. nat_le (max (reach_of p.cells) (next_place p + cell_dots x)) area && nat_le (dots p.cells + cell_dots x) n) most

-- Where it isn't alone at the beginning.
pub room_by_counts : (area : ℕ) (cells : List Cell) (m : Option ℕ) (x : Cell) → area ≤ MOST_LINE_DOTS → (m ≡ None → is_empty cells ≡ false)
    → has_room area (record { cells = cells; moved = m }) x
    ≡ (nat_le (max (reach_of cells) (next_place (record { cells = cells; moved = m }) + cell_dots x)) area && nat_le (dots cells + cell_dots x) MOST_LINE_DOTS)
room_by_counts area [] None x narrow other = absurd (let no : true ≡ false = other refl in cc)
room_by_counts area [] (Some n) x narrow other = by_counts area (record { cells = []; moved = Some n }) x narrow refl
room_by_counts area (y ∷ cells) m x narrow other = by_counts area (record { cells = y ∷ cells; moved = m }) x narrow (beside (y ∷ cells) m x refl)

-- Alone there it always has room.
pub room_alone : (area : ℕ) (cells : List Cell) (m : Option ℕ) (x : Cell) → is_empty cells ≡ true → m ≡ None → has_room area (record { cells = cells; moved = m }) x ≡ true
room_alone area [] None x e k = refl
room_alone area [] (Some n) x e k = absurd cc
room_alone area (y ∷ cells) m x e k = absurd cc

-- What a cell with room leaves: it is alone, or all of the line is within the widest.
pub data Left (p : Placed) (x : Cell) : Type 0 where
  only : length p.cells ≡ 0 → next_place p ≡ 0 → Left p x
  inside : max (reach_of p.cells) (next_place p + cell_dots x) ≤ MOST_LINE_DOTS → dots p.cells + cell_dots x ≤ MOST_LINE_DOTS → Left p x

none_beside : (row : List Cell) (m : Option ℕ) (x : Cell) → is_alone (row ++ placed_cell m x ∷ []) ≡ true → (length row ≡ 0) × (next_place (record { cells = row; moved = m }) ≡ 0)
none_beside [] None x h = (refl, refl)
none_beside [] (Some n) x h = absurd cc
none_beside (y ∷ []) m x h = absurd cc
none_beside (y ∷ z ∷ row) m x h = absurd cc

pub left_by_room : (p : Placed) (x : Cell) → IsTrue (has_room MOST_LINE_DOTS p x) → Left p x
left_by_room p x h = elim (fit_means MOST_LINE_DOTS (with_next p x) h) [
  | inl one ↦ let none = none_beside p.cells p.moved x one in only none.0 none.1
  | inr w ↦
      let reaches = w.reaches in
      let few = w.few in
      inside (omega (arith, reaches, reach_with_next p x)) (omega (arith, few, dots_with_next p x))
]

-- ## Characters after the last

pub reach_with_text : (s : Style) (row : List Cell) (b : ℕ) (bs : List ℕ)
    → reach_of (row ++ map (cell s) (b ∷ bs)) ≡ max (reach_of row) (end_of row + length (b ∷ bs) * style_dots s)
reach_with_text s row b [] = let one = reach_with 0 row (cell s b) in omega (arith, one)
reach_with_text s row b (c ∷ bs) =
    let further = reach_with_text s (row ++ cell s b ∷ []) c bs in
    let one = reach_with 0 row (cell s b) in
    let end = end_with 0 row (cell s b) in
    let joined = ap reach_of (append_snoc row (cell s b) (map (cell s) (c ∷ bs))) in
    omega (arith, further, one, end, joined)

-- ## Bounds

nothing_there : (row : List Cell) → length row ≤ 0 → (dots row ≡ 0) × (end_of row ≡ 0)
nothing_there [] none = (refl, refl)
nothing_there (x ∷ row) none = absurd (omega arith)

alone_length : (row : List Cell) → is_alone row ≡ true → length row ≤ 1
alone_length [] h = omega arith
alone_length (x ∷ []) h = omega arith
alone_length (x ∷ y ∷ row) h = absurd cc

-- The counts of a line with one more cell stay small.
pub record CellBounds (p : Placed) (x : Cell) : Type 0 where
  pub total : dots p.cells + cell_dots x ≤ 4096
  pub ends : next_place p + cell_dots x ≤ 4096
  pub few : length p.cells < LINE_CELLS

pub cell_bounds : (p : Placed) (x : Cell) → 9 ≤ cell_dots x → cell_dots x ≤ 2232 → 9 * length p.cells ≤ dots p.cells → IsTrue (has_room MOST_LINE_DOTS p x) → CellBounds p x
cell_bounds p x wide narrow each h = elim (left_by_room p x h) [
  | only none at ↦
      let empty = nothing_there p.cells (omega (arith, none)) in
      record { total = omega (arith, empty.0, narrow); ends = omega (arith, at, narrow); few = omega (arith, none) }
  | inside reach few ↦
      record { total = omega (arith, few); ends = omega (arith, reach); few = omega (arith, few, wide, each) }
]

-- The same of characters.
pub record TextBounds (s : Style) (row : List Cell) (bs : List ℕ) : Type 0 where
  pub total : dots row + style_dots s * length bs ≤ 4096
  pub ends : end_of row + style_dots s * length bs ≤ 4096
  pub few : length row + length bs ≤ LINE_CELLS

pub text_bounds : (s : Style) (row : List Cell) (bs : List ℕ) → 1 ≤ length bs → 9 ≤ style_dots s → style_dots s ≤ 2232 → 9 * length row ≤ dots row
    → IsTrue (fits MOST_LINE_DOTS (row ++ map (cell s) bs)) → TextBounds s row bs
text_bounds s row [] some wide narrow each fit = absurd (omega arith)
text_bounds s row (b ∷ bs) some wide narrow each fit =
    let d = style_dots s in
    let n = length (b ∷ bs) in
    elim (fit_means MOST_LINE_DOTS (row ++ map (cell s) (b ∷ bs)) fit) [
      | inl one ↦
          let both : length row + n ≤ 1 = omega (arith, alone_length (row ++ map (cell s) (b ∷ bs)) one, length-append row (map (cell s) (b ∷ bs)), length-map (b ∷ bs) (cell s)) in
          let empty = nothing_there row (omega (arith, both, some)) in
          let lone : n ≤ 1 = omega (arith, both) in
          let single : d * n ≤ 2232 * 1 = mul-le-mul narrow lone in
          record { total = omega (arith, empty.0, single); ends = omega (arith, empty.1, single); few = omega (arith, both) }
      | inr w ↦
          let reaches = w.reaches in
          let few = w.few in
          let far = reach_with_text s row b bs in
          let same = mul_comm d n in
          let grown : 9 * n ≤ d * n = mul-le-mul_right n wide in
          record {
            total = omega (arith, few, dots_with_text s row (b ∷ bs), same);
            ends = omega (arith, reaches, far, same);
            few = omega (arith, few, dots_with_text s row (b ∷ bs), same, grown, each);
          }
    ]

-- ## Widths

face_most : (face : FontFace) (turned : Bool) → (if turned then face_rows face else face_dots face) ≤ 24
face_most A true = omega arith
face_most A false = omega arith
face_most B true = omega arith
face_most B false = omega arith

factor_most : (turned : Bool) (width height : ℕ) → width ≤ 8 → height ≤ 8 → (if turned then height else width) ≤ 8
factor_most true width height h k = k
factor_most false width height h k = h

-- A character takes at most 2,232 dots.
pub style_most : (s : Style) → s.spacing < 256 → (s.width ≤ 8) × (s.height ≤ 8) → style_dots s ≤ 2232
style_most s few small =
    let face = face_most s.font s.turned in
    let narrow : narrow_dots s ≤ 279 = omega (arith, face, few) in
    let all : style_dots s ≤ 279 * 8 = mul-le-mul narrow (factor_most s.turned s.width s.height small.0 small.1) in
    omega (arith, all)
