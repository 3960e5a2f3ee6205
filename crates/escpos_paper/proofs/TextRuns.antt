-- Characters of one style, side by side.
use Rattle.std.proofs.Common.{◌≡◌, ℕ, ◌+◌, ◌*◌, ◌-◌, ◌/◌, ◌≤◌, ◌<◌, List, [], ◌∷◌, ◌++◌, length, length-append, map, refl, Bool, ◌∙◌, ap, arith, ◌⊎◌, inl, inr, true, false}
use Rattle.std.specs.Prelude.{IsTrue, IsFalse, max, min, if◌then◌else◌}
use Rattle.std.proofs.Math.Nat.{le-div_iff_mul-le, mul-le-mul, mul-le-mul_right, mul_comm}
use Rattle.std.proofs.lemmas.Bool.{cases_lt}
use Rattle.std.proofs.lemmas.List.{length-map}
use Rattle.std.proofs.lemmas.List.Sums.{sum_by-append, sum_by-cons}
use Rattle.escpos_command.specs.declared.parameter.choices.FontFace.{FontFace}
use Rattle.escpos_command.specs.declared.parameter.choices.FontFace.TheVariants.{A, B}
use Rattle.escpos_paper.specs.declared.cell.Cell.{Cell}
use Rattle.escpos_paper.specs.declared.style.Style.{Style}
use Rattle.escpos_paper.specs.Cells.{cell, cell_dots, dots, end_of, reach_of}
use Rattle.escpos_paper.specs.Dots.{face_dots, face_rows, narrow_dots, style_dots}
use Rattle.std.specs.List.{AllByRecursion}
use Rattle.escpos_command.specs.declared.line_width.TheConstants.{MOST_LINE_DOTS}
use Rattle.escpos_paper.specs.Rows.{fits, is_alone}
use Rattle.escpos_paper.specs.Styles.{is_empty}
use Rattle.escpos_paper.proofs.Fits.{Follows, end_together, fit_means, one_fits, reach_grows, reach_on, reach_with, too_far, too_many, within_fits}

-- How wide they are together.
pub dots_of_text : (s : Style) (bs : List ℕ) → dots (map (cell s) bs) ≡ length bs * style_dots s
dots_of_text s [] = omega arith
dots_of_text s (b ∷ bs) = let rest = dots_of_text s bs in omega (arith, rest, sum_by-cons cell_dots (cell s b) (map (cell s) bs))

pub dots_with_text : (s : Style) (row : List Cell) (bs : List ℕ) → dots (row ++ map (cell s) bs) ≡ dots row + length bs * style_dots s
dots_with_text s row bs = sum_by-append cell_dots row (map (cell s) bs) ∙ ap (λ n. dots row + n) (dots_of_text s bs)

-- They follow one another.
pub text_follows : (s : Style) (bs : List ℕ) → AllByRecursion Follows (map (cell s) bs)
text_follows s [] = tt
text_follows s (b ∷ bs) = (refl, text_follows s bs)

pub end_with_text : (s : Style) (row : List Cell) (bs : List ℕ) → end_of (row ++ map (cell s) bs) ≡ end_of row + length bs * style_dots s
end_with_text s row bs = end_together 0 row (map (cell s) bs) (text_follows s bs) ∙ ap (λ n. end_of row + n) (dots_of_text s bs)

-- At least one, and as many as the room that is left, divided by their width, fit.
pub text_fits : (w : ℕ) (s : Style) (row : List Cell) (bs : List ℕ) → 1 ≤ style_dots s → 1 ≤ length bs → reach_of row ≤ w
    → length bs ≤ (w - end_of row) / style_dots s → length bs ≤ (MOST_LINE_DOTS - dots row) / style_dots s → IsTrue (fits w (row ++ map (cell s) bs))
text_fits w s row bs wide some far few all =
    let room : length bs * style_dots s ≤ w - end_of row = (le-div_iff_mul-le wide).0 few in
    let total : length bs * style_dots s ≤ MOST_LINE_DOTS - dots row = (le-div_iff_mul-le wide).0 all in
    let least : 1 ≤ length bs * style_dots s = mul-le-mul some wide in
    let on = reach_on 0 row (map (cell s) bs) (text_follows s bs) in
    within_fits w (row ++ map (cell s) bs) (record {
      reaches = omega (arith, on, far, room, least, dots_of_text s bs);
      few = omega (arith, total, least, dots_with_text s row bs);
    })

-- A row of others, and one more, isn't alone.
not_alone : (x : Cell) (row : List Cell) (y : Cell) → is_alone ((x ∷ row) ++ y ∷ []) ≡ false
not_alone x [] y = refl
not_alone x (z ∷ row) y = refl

-- What reaches too far already has no room for one more.
pub none_where_far : (w : ℕ) (s : Style) (row : List Cell) (b : ℕ) → is_empty row ≡ false → w < reach_of row → IsFalse (fits w (row ++ cell s b ∷ []))
none_where_far w s [] b others far = absurd cc
none_where_far w s (x ∷ row) b others far =
    let more = reach_grows 0 (x ∷ row) (cell s b ∷ []) in
    too_far w ((x ∷ row) ++ cell s b ∷ []) (not_alone x row (cell s b)) (omega (arith, far, more))

no_room : (room d : ℕ) → 1 ≤ d → room / d ≡ 0 → room < d
no_room room d wide none = elim (cases_lt room d) [
  | inl less ↦ less
  | inr more ↦ absurd (let some : 1 ≤ room / d = (le-div_iff_mul-le wide).1 (omega (arith, more)) in omega (arith, some, none))
]

-- If the room that is left is less than its width, not one more fits after others.
pub none_fits : (w : ℕ) (s : Style) (row : List Cell) (b : ℕ) → 1 ≤ style_dots s → is_empty row ≡ false
    → (w - end_of row) / style_dots s ≡ 0 → IsFalse (fits w (row ++ cell s b ∷ []))
none_fits w s [] b wide others none = absurd cc
none_fits w s (x ∷ row) b wide others none =
    let less = no_room (w - end_of (x ∷ row)) (style_dots s) wide none in
    let on = reach_with 0 (x ∷ row) (cell s b) in
    too_far w ((x ∷ row) ++ cell s b ∷ []) (not_alone x row (cell s b)) (omega (arith, less, on))

pub none_of_all : (w : ℕ) (s : Style) (row : List Cell) (b : ℕ) → 1 ≤ style_dots s → is_empty row ≡ false → w ≤ MOST_LINE_DOTS
    → (MOST_LINE_DOTS - dots row) / style_dots s ≡ 0 → IsFalse (fits w (row ++ cell s b ∷ []))
none_of_all w s [] b wide others narrow none = absurd cc
none_of_all w s (x ∷ row) b wide others narrow none =
    let less = no_room (MOST_LINE_DOTS - dots (x ∷ row)) (style_dots s) wide none in
    let one = dots_with_text s (x ∷ row) (b ∷ []) in
    too_many w ((x ∷ row) ++ cell s b ∷ []) (not_alone x row (cell s b)) (omega (arith, less, one, narrow))

-- One fits where there is no other.
pub alone_fits : (w : ℕ) (s : Style) (row : List Cell) (bs : List ℕ) → is_empty row ≡ true → length bs ≤ 1 → IsTrue (fits w (row ++ map (cell s) bs))
alone_fits w s [] bs none few = one_fits w (map (cell s) bs) (text_follows s bs) (omega (arith, few, length-map bs (cell s)))
alone_fits w s (x ∷ row) bs none few = absurd cc

-- How many fit, by the counts of a line.
abbrev pub room_left : ℕ → Style → List Cell → ℕ
room_left w s row = min ((w - end_of row) / style_dots s) ((MOST_LINE_DOTS - dots row) / style_dots s)

pub first_fits : (w : ℕ) (s : Style) (row : List Cell) (bs : List ℕ) (room : ℕ) → is_empty row ≡ true → 1 ≤ style_dots s → 1 ≤ length bs → room ≡ room_left w s row
    → length bs ≤ max room 1 → IsTrue (fits w (row ++ map (cell s) bs))
first_fits w s [] bs room none wide some is few = elim (cases_lt 1 (length bs)) [
  | inl more ↦ text_fits w s [] bs wide some (omega arith) (omega (arith, is, few, more)) (omega (arith, is, few, more))
  | inr one ↦ alone_fits w s [] bs refl one
]
first_fits w s (x ∷ row) bs room none wide some is few = absurd cc

pub next_fits : (w : ℕ) (s : Style) (row : List Cell) (bs : List ℕ) (room : ℕ) → reach_of row ≤ w → 1 ≤ style_dots s → 1 ≤ length bs → room ≡ room_left w s row
    → length bs ≤ room → IsTrue (fits w (row ++ map (cell s) bs))
next_fits w s row bs room far wide some is few = text_fits w s row bs wide some far (omega (arith, is, few)) (omega (arith, is, few))

pub none_next : (w : ℕ) (s : Style) (row : List Cell) (b room : ℕ) → is_empty row ≡ false → w ≤ MOST_LINE_DOTS → 1 ≤ style_dots s → room ≡ room_left w s row
    → room ≡ 0 → IsFalse (fits w (row ++ cell s b ∷ []))
none_next w s row b room others narrow wide is none = elim (cases_lt 0 ((w - end_of row) / style_dots s)) [
  | inl some ↦ none_of_all w s row b wide others narrow (omega (arith, is, none, some))
  | inr nothing ↦ none_fits w s row b wide others (omega (arith, nothing))
]

alone_length : (row : List Cell) → is_alone row ≡ true → length row ≤ 1
alone_length [] h = omega arith
alone_length (x ∷ []) h = omega arith
alone_length (x ∷ y ∷ row) h = absurd cc

-- Characters that fit into the widest line: after others they take the dots that are left, or there is one of them, or none.
pub text_narrow : (s : Style) (row : List Cell) (bs : List ℕ) → IsTrue (fits MOST_LINE_DOTS (row ++ map (cell s) bs))
    → (dots row + style_dots s * length bs ≤ MOST_LINE_DOTS) ⊎ ((length row ≤ 0) × (length bs ≤ 1)) ⊎ ((length row ≤ 1) × (length bs ≤ 0))
text_narrow s row bs fit = elim (fit_means MOST_LINE_DOTS (row ++ map (cell s) bs) fit) [
  | inl one ↦
      let both : length row + length bs ≤ 1 = omega (arith, alone_length (row ++ map (cell s) bs) one, length-append row (map (cell s) bs), length-map bs (cell s)) in
      inr (elim (cases_lt 0 (length row)) [
        | inl some ↦ inr (omega (arith, both, some), omega (arith, both, some))
        | inr none ↦ inl (omega (arith, none), omega (arith, both))
      ])
  | inr inside ↦ let few = inside.few in inl (omega (arith, few, dots_with_text s row bs, mul_comm (style_dots s) (length bs)))
]

-- A character is at least 9 dots wide, turned or not.
wide_at : (face : FontFace) (turned : Bool) → 9 ≤ (if turned then face_rows face else face_dots face)
wide_at A true = omega arith
wide_at A false = omega arith
wide_at B true = omega arith
wide_at B false = omega arith

wide_alone : (s : Style) → 9 ≤ narrow_dots s
wide_alone s = let face = wide_at s.font s.turned in omega (arith, face)

some_factor : (turned : Bool) (width height : ℕ) → 1 ≤ width → 1 ≤ height → 1 ≤ (if turned then height else width)
some_factor true width height h k = k
some_factor false width height h k = h

pub wide_face : (s : Style) → (1 ≤ s.width) × (1 ≤ s.height) → 9 ≤ style_dots s
wide_face s visible = mul-le-mul (wide_alone s) (some_factor s.turned s.width s.height visible.0 visible.1)

pub wide_text : (s : Style) (n : ℕ) → (1 ≤ s.width) × (1 ≤ s.height) → 9 * n ≤ style_dots s * n
wide_text s n visible = mul-le-mul_right n (wide_face s visible)
