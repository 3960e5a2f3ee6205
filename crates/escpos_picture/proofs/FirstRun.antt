-- The first run of some cells, and the runs after it.
use Rattle.std.proofs.Common.{arith, ◌≡◌, ℕ, suc, ◌+◌, ◌-◌, ◌*◌, ◌<◌, ◌≤◌, List, [], ◌∷◌, ◌++◌, length, get_or, refl, sym, subst, ◌∙◌, ap, take, drop, append_assoc, append-nil, true, false, cond}
use Rattle.std.specs.Prelude.{◌==◌, max, Option}
use Rattle.std.specs.Option.{unwrap_or}
use Rattle.std.proofs.Math.Nat.{mul-le-mul_right}
use Rattle.std.proofs.Math.Seq.{take-length}
use Rattle.std.proofs.lemmas.List.{length-map}
use Rattle.std.proofs.lemmas.Bool.Decides.{nat_tests}
use Rattle.escpos_paper.specs.declared.cell.Cell.{Cell}
use Rattle.escpos_paper.specs.declared.style.Style.{Style}
use Rattle.escpos_paper.specs.Dots.{style_dots}
use Rattle.escpos_picture.specs.Rows.{PlacedRun, joins, run, runs, run_drawing, runs_drawing, bytes_of, same_count, with_before}

-- The first cell and those that are counted after it are the first run.
pub first_run : (x : Cell) (xs : List Cell)
    → runs (x ∷ xs) ≡ (x.moved, run x.style (x.byte ∷ bytes_of (take (same_count x.style xs) xs))) ∷ runs (drop (same_count x.style xs) xs)
unfolding runs
first_run x [] = refl
first_run x (y ∷ ys) =
    let count = same_count y.style ys in
    let tail = runs (drop count ys) in
    let joined = (x.moved, run x.style (x.byte ∷ y.byte ∷ bytes_of (take count ys))) ∷ tail in
    let apart = (x.moved, run x.style (x.byte ∷ [])) ∷ (y.moved, run y.style (y.byte ∷ bytes_of (take count ys))) ∷ tail in
    ap (with_before x) (first_run y ys)
    ∙ elim (joins x.style y.style y.moved) as (λ v. cond v joined apart
    ≡ (x.moved, run x.style (x.byte ∷ bytes_of (take (cond v (suc count) 0) (y ∷ ys)))) ∷ runs (drop (cond v (suc count) 0) (y ∷ ys))) [
      | true ↦ refl
      | false ↦ ap (λ rs. (x.moved, run x.style (x.byte ∷ [])) ∷ rs) (sym (first_run y ys))
    ]

-- The same for any cells of which there is one.
pub first_run_of : (cells : List Cell) (d : Cell) → 0 < length cells
    → let count = same_count (get_or cells 0 d).style (take (length cells - 1) (drop 1 cells)) in
    runs cells ≡ ((get_or cells 0 d).moved, run (get_or cells 0 d).style (bytes_of (take (1 + count) cells))) ∷ runs (drop (1 + count) cells)
first_run_of [] d some = elim some [ ]
first_run_of (x ∷ xs) d some =
    let others : take (length (x ∷ xs) - 1) (drop 1 (x ∷ xs)) ≡ xs = ap (λ n. take n xs) (omega arith) ∙ take-length xs in
    let next : suc (same_count x.style xs) ≡ 1 + same_count x.style xs = omega arith in
    subst (λ ys. runs (x ∷ xs) ≡ (x.moved, run x.style (bytes_of (take (1 + same_count x.style ys) (x ∷ xs)))) ∷ runs (drop (1 + same_count x.style ys) (x ∷ xs)))
    (sym others)
    (subst (λ n. runs (x ∷ xs) ≡ (x.moved, run x.style (bytes_of (take n (x ∷ xs)))) ∷ runs (drop n (x ∷ xs))) next (first_run x xs))

-- What is drawn after one more run: the runs after it stand so many dots further on.
pub drawn_on : (kept : List ℕ) (x : ℕ) (m : Option ℕ) (s : Style) (cells : List Cell) (rs : List PlacedRun)
    → kept ++ runs_drawing x ((m, run s (bytes_of cells)) ∷ rs)
    ≡ (kept ++ run_drawing (unwrap_or m x) (run s (bytes_of cells))) ++ runs_drawing (unwrap_or m x + style_dots s * length cells) rs
unfolding runs_drawing
drawn_on kept x m s cells rs =
    let count : length (bytes_of cells) ≡ length cells = length-map cells (λ (c : Cell). c.byte) in
    let start = unwrap_or m x in
    sym (append_assoc kept (run_drawing start (run s (bytes_of cells))) (runs_drawing (start + style_dots s * length (bytes_of cells)) rs))
    ∙ ap (λ n. (kept ++ run_drawing start (run s (bytes_of cells))) ++ runs_drawing (start + style_dots s * n) rs) count

some_left : (n : ℕ) → (suc n == 0) ≡ true → ⊥
some_left n e = grind (arith, nat_tests)

-- Once no cell is left, nothing is drawn any more.
pub nothing_left : (kept : List ℕ) (x : ℕ) (cells : List Cell) → (length cells == 0) ≡ true → kept ++ runs_drawing x (runs cells) ≡ kept
unfolding runs runs_drawing
nothing_left kept x [] none = append-nil kept
nothing_left kept x (y ∷ ys) none = absurd (some_left (length ys) none)

-- A run is at most 100,000 dots wide for each of its cells, and a place is at most 65,535 dots from the left.
pub wide_on : (x start dots n left rest all : ℕ) → dots ≤ 100000 → left + n ≡ rest → start ≤ max x 65535 → rest ≤ all → x + 100000 * rest ≤ 65535 + 100000 * all
    → start + dots * n + 100000 * left ≤ 65535 + 100000 * all
wide_on x start dots n left rest all narrow back place fewer was =
    let grown : dots * n ≤ 100000 * n = mul-le-mul_right n narrow in
    omega (arith, grown, back, was, place, fewer)
