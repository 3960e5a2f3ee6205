-- Error diffusion of a picture of one gray value that has no error: no error ever comes up.
use Rattle.std.proofs.Common.{◌≡◌, ℕ, zero, suc, ◌+◌, ◌-◌, ◌*◌, Bool, true, false, ◌∷◌, map, take, drop, get_or, replicate, refl, ap, ◌∙◌, arith}
use Rattle.std.proofs.lemmas.List.{take-replicate, drop-replicate, replicate-append-replicate}
use Rattle.escpos_image.specs.declared.samples.TheConstants.{WHITE}
use Rattle.escpos_image.specs.declared.diffusion.TheConstants.{NO_ERROR}
use Rattle.escpos_image.specs.Grays.{grays_of}
use Rattle.escpos_image.specs.Diffusion.{wanted, is_black, error, row_wants, whole_row, diffused_rows}
use Rattle.escpos_image.specs.Shading.{diffused}

-- A gray value that a dot of this colour shows exactly.
pub record IsExact (gray want : ℕ) (dot : Bool) : Type 0 where
  pub is : wanted gray NO_ERROR NO_ERROR NO_ERROR NO_ERROR ≡ want
  pub shown : is_black want ≡ dot
  pub rest : error want ≡ NO_ERROR

no_error_at : (n i : ℕ) → get_or (replicate n NO_ERROR) i NO_ERROR ≡ NO_ERROR
no_error_at zero zero = refl
no_error_at zero (suc i) = refl
no_error_at (suc n) zero = refl
no_error_at (suc n) (suc i) = no_error_at n i

row_of_one : (gray want : ℕ) (dot : Bool) → IsExact gray want dot → (m n : ℕ) → row_wants NO_ERROR NO_ERROR (replicate m NO_ERROR) (replicate n gray) ≡ replicate n want
unfolding row_wants
row_of_one gray want dot h m zero = refl
row_of_one gray want dot h m (suc n) =
    let left = no_error_at m 0 in
    let right = no_error_at m 1 in
    let above : drop 1 (replicate m NO_ERROR) ≡ replicate (m - 1) NO_ERROR = drop-replicate 1 m NO_ERROR in
    rw (left, right, above, h.is, h.rest) (ap (λ xs. want ∷ xs) (row_of_one gray want dot h (m - 1) n))

map_of_one : {X : Type 0} (f : ℕ → X) (n x : ℕ) (y : X) → f x ≡ y → map f (replicate n x) ≡ replicate n y
map_of_one f zero x y e = refl
map_of_one f (suc n) x y e = rw (e, map_of_one f n x y e)

whole_row_of_one : (gray want : ℕ) (dot : Bool) → IsExact gray want dot → (width : ℕ) → whole_row (replicate width NO_ERROR) (replicate width gray) ≡ replicate width want
whole_row_of_one gray want dot h width = row_of_one gray want dot h width width

rows_of_one : (gray want : ℕ) (dot : Bool) → IsExact gray want dot → (width rows : ℕ) → diffused_rows width (replicate width NO_ERROR) rows (replicate (width * rows) gray) ≡ replicate (width * rows) dot
unfolding diffused_rows
rows_of_one gray want dot h width zero = let e : 0 ≡ width * 0 = omega arith in ap (λ n. replicate n dot) e
rows_of_one gray want dot h width (suc rows) =
    let n : width * suc rows ≡ width + width * rows = omega arith in
    let first : take width (replicate (width * suc rows) gray) ≡ replicate width gray = take-replicate width (width * suc rows) gray (omega arith) in
    let rest : drop width (replicate (width * suc rows) gray) ≡ replicate (width * rows) gray =
    drop-replicate width (width * suc rows) gray ∙ ap (λ (k : ℕ). replicate k gray) (omega arith) in
    let row = whole_row_of_one gray want dot h width in
    let dots = map_of_one is_black width want dot h.shown in
    let errors = map_of_one error width want NO_ERROR h.rest in
    rw (first, rest, row, dots, errors, rows_of_one gray want dot h width rows, n) (replicate-append-replicate width (width * rows) dot)

picture_of_one : (gray want : ℕ) (dot : Bool) → IsExact gray want dot → (width height : ℕ) → diffused (grays_of width height (replicate (width * height) gray)) ≡ replicate (width * height) dot
unfolding diffused
picture_of_one gray want dot h width height = rows_of_one gray want dot h width height

pub white_picture : (width height : ℕ) → diffused (grays_of width height (replicate (width * height) WHITE)) ≡ replicate (width * height) false
white_picture width height = picture_of_one WHITE 383 false (record { is = refl; shown = refl; rest = refl }) width height

pub black_picture : (width height : ℕ) → diffused (grays_of width height (replicate (width * height) 0)) ≡ replicate (width * height) true
black_picture width height = picture_of_one 0 128 true (record { is = refl; shown = refl; rest = refl }) width height
