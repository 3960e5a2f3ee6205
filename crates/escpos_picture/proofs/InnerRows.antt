-- Rows that are neither the first nor the last of their path.
use Rattle.std.proofs.Common.{◌≡◌, ℕ, zero, suc, ◌+◌, ◌-◌, ◌*◌, ◌%◌, ◌<◌, ◌≤◌, take, drop, length, arith, List, [], ◌∷◌, ◌++◌, sym, ◌∙◌, ap, append_assoc, append-nil, false, cond}
use Rattle.std.proofs.Math.Nat.{mul-suc}
use Rattle.std.proofs.Math.Seq.{take-length}
use Rattle.std.proofs.lemmas.List.{drop-drop, length-drop}
use Rattle.std.proofs.lemmas.Bool.Decides.{nat_tests}
use Rattle.escpos_picture.specs.declared.raster.TheConstants.{BAND_ROWS}
use Rattle.escpos_picture.specs.Steps.{begin, steps_text}
use Rattle.escpos_picture.specs.ByteSpans.{inner_rows_text}
use Rattle.escpos_picture.specs.Rasters.{rows_of, begins_band, ends_before, row_steps, rows_text}
use Rattle.escpos_picture.proofs.RasterRows.{row_first}

-- One more row is written.
pub row_written : (waiting written : List ℕ) (x n : ℕ) (rest row below : List ℕ) → written ≡ waiting ++ steps_text (row_steps false row) → row ≡ take x rest → below ≡ drop x rest
    → written ++ inner_rows_text (rows_of x n below) ≡ waiting ++ inner_rows_text (rows_of x (suc n) rest)
row_written waiting written x n rest row below is row_is below_is =
    ap (λ t. t ++ inner_rows_text (rows_of x n below)) is
    ∙ append_assoc waiting (steps_text (row_steps false row)) (inner_rows_text (rows_of x n below))
    ∙ ap (λ r. waiting ++ (steps_text (row_steps false r) ++ inner_rows_text (rows_of x n below))) row_is
    ∙ ap (λ r. waiting ++ (steps_text (row_steps false (take x rest)) ++ inner_rows_text (rows_of x n r))) below_is

-- All are written that were asked for.
pub rows_written : (waiting written : List ℕ) (x count : ℕ) (rest dots : List ℕ)
    → written ++ inner_rows_text (rows_of x 0 rest) ≡ waiting ++ inner_rows_text (rows_of x (0 + count) dots)
    → written ≡ waiting ++ inner_rows_text (rows_of x count dots)
rows_written waiting written x count rest dots so_far =
    let same : 0 + count ≡ count = omega arith in
    sym (append-nil written) ∙ so_far ∙ ap (λ n. waiting ++ inner_rows_text (rows_of x n dots)) same

-- ## In a raster

within_band : (line : ℕ) → 0 < line % BAND_ROWS → begins_band line ≡ false
within_band line inside = grind (arith, nat_tests)

goes_on : (line x n left : ℕ) (dots : List ℕ) → n ≡ suc left → begins_band line ≡ false → ends_before line (rows_of x n dots) ≡ false
goes_on line x n left dots more inside = ap (λ m. ends_before line (rows_of x m dots)) more ∙ inside

inner_first : (line x n left : ℕ) (dots : List ℕ) → n ≡ suc left → begins_band line ≡ false → begins_band (line + 1) ≡ false
    → rows_text line (rows_of x (suc n) dots) ≡ steps_text (row_steps false (take x dots)) ++ rows_text (line + 1) (rows_of x n (drop x dots))
inner_first line x n left dots more here next =
    let below = rows_of x n (drop x dots) in
    row_first line x n dots
    ∙ ap (λ v. (steps_text (cond v (begin line ∷ []) []) ++ steps_text (row_steps (ends_before (line + 1) below) (take x dots))) ++ rows_text (line + 1) below) here
    ∙ ap (λ v. steps_text (row_steps v (take x dots)) ++ rows_text (line + 1) below) (goes_on (line + 1) x n left (drop x dots) more next)

no_inner : (line x n : ℕ) (dots : List ℕ) → rows_text line (rows_of x n dots) ≡ rows_text (line + 0) (rows_of x n (drop (x * 0) dots))
no_inner line x n dots =
    let same : line ≡ line + 0 = omega arith in
    let none : 0 ≡ x * 0 = omega arith in
    ap (λ m. rows_text m (rows_of x n dots)) same ∙ ap (λ m. rows_text (line + 0) (rows_of x n (drop m dots))) none

inner_text : (count line x left : ℕ) (dots : List ℕ) → 0 < line % BAND_ROWS → line % BAND_ROWS + count < BAND_ROWS
    → rows_text line (rows_of x (count + suc left) dots) ≡ inner_rows_text (rows_of x count dots) ++ rows_text (line + count) (rows_of x (suc left) (drop (x * count) dots))
inner_text zero line x left dots inside few =
    let all : zero + suc left ≡ suc left = omega arith in
    ap (λ n. rows_text line (rows_of x n dots)) all ∙ no_inner line x (suc left) dots
inner_text (suc count) line x left dots inside few =
    let all : suc count + suc left ≡ suc (count + suc left) = omega arith in
    let more : count + suc left ≡ suc (count + left) = omega arith in
    let next : 0 < (line + 1) % BAND_ROWS = omega (arith, inside, few) in
    let fewer : (line + 1) % BAND_ROWS + count < BAND_ROWS = omega (arith, inside, few) in
    let row = steps_text (row_steps false (take x dots)) in
    let others = inner_rows_text (rows_of x count (drop x dots)) in
    let end : line + 1 + count ≡ line + suc count = omega arith in
    let place : x + x * count ≡ x * suc count = omega (arith, mul-suc x count) in
    ap (λ n. rows_text line (rows_of x n dots)) all
    ∙ inner_first line x (count + suc left) (count + left) dots more (within_band line inside) (within_band (line + 1) next)
    ∙ ap (λ t. row ++ t) (inner_text count (line + 1) x left (drop x dots) next fewer)
    ∙ sym (append_assoc row others (rows_text (line + 1 + count) (rows_of x (suc left) (drop (x * count) (drop x dots)))))
    ∙ ap (λ r. (row ++ others) ++ rows_text (line + 1 + count) (rows_of x (suc left) r)) (drop-drop (x * count) x dots)
    ∙ ap (λ m. (row ++ others) ++ rows_text (line + 1 + count) (rows_of x (suc left) (drop m dots))) place
    ∙ ap (λ m. (row ++ others) ++ rows_text m (rows_of x (suc left) (drop (x * suc count) dots))) end

-- Of the rows that are left, so many are inner ones.
pub inner_of_left : (count most line x y : ℕ) (dots : List ℕ) → count ≤ most → (0 < most → 0 < line % BAND_ROWS) → line % BAND_ROWS + most < BAND_ROWS → (0 < most → line + most < y)
    → rows_text line (rows_of x (y - line) dots) ≡ inner_rows_text (rows_of x count dots) ++ rows_text (line + count) (rows_of x (y - (line + count)) (drop (x * count) dots))
inner_of_left zero most line x y dots few first within last =
    let same : y - line ≡ y - (line + 0) = omega arith in
    no_inner line x (y - line) dots ∙ ap (λ n. rows_text (line + 0) (rows_of x n (drop (x * 0) dots))) same
inner_of_left (suc count) most line x y dots few first within last =
    let some : 0 < most = omega (arith, few) in
    let inside = first some in
    let before = last some in
    let left = y - (line + suc count) - 1 in
    let all : y - line ≡ suc count + suc left = omega (arith, before, few) in
    let others : suc left ≡ y - (line + suc count) = omega (arith, before, few) in
    ap (λ n. rows_text line (rows_of x n dots)) all
    ∙ inner_text (suc count) line x left dots inside (omega (arith, within, few))
    ∙ ap (λ n. inner_rows_text (rows_of x (suc count) dots) ++ rows_text (line + suc count) (rows_of x n (drop (x * suc count) dots))) others

pub inner_inside : (count most line y : ℕ) → count ≤ most → (0 < most → line + most < y) → line ≤ y → line + count ≤ y
inner_inside zero most line y few last inside = omega (arith, inside)
inner_inside (suc count) most line y few last inside =
    let before = last (omega (arith, few)) in
    omega (arith, before, few)

-- All bytes after the first so many.
pub take_rest : (n : ℕ) (dots : List ℕ) → take (length dots - n) (drop n dots) ≡ drop n dots
take_rest n dots = ap (λ m. take m (drop n dots)) (sym (length-drop n dots)) ∙ take-length (drop n dots)

-- Rows are drawn and inner ones after them wait.
pub inner_wait : (whole done waiting now before rows left : List ℕ) → whole ≡ done ++ (waiting ++ before) → before ≡ rows ++ left → now ≡ waiting ++ rows → whole ≡ done ++ (now ++ left)
inner_wait whole done waiting now before rows left is parts waits =
    is ∙ ap (λ t. done ++ (waiting ++ t)) parts ∙ ap (λ t. done ++ t) (sym (append_assoc waiting rows left)) ∙ ap (λ t. done ++ (t ++ left)) (sym waits)
