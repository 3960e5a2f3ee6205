-- A mean lies between the least and the greatest of its box.
use Rattle.std.proofs.Common.{◌≡◌, ℕ, zero, suc, ◌+◌, ◌-◌, ◌*◌, ◌/◌, ◌<◌, ◌≤◌, leb, Bool, true, false, List, [], ◌∷◌, length, map, flat_map, sum, drop, if◌then◌else◌, refl, ◌∙◌, arith}
use Rattle.std.specs.List.{All, range_with_len}
use Rattle.std.proofs.Math.Nat.{div-le_of_le-mul, le-div_iff_mul-le, mul-le-mul_left, mul-le-mul_right}
use Rattle.std.proofs.lemmas.Grind.{common_steps}
use Rattle.std.proofs.lemmas.Bool.{leb-false}
use Rattle.std.proofs.lemmas.Nat.{mul-add-lt}
use Rattle.std.proofs.lemmas.List.Elements.{All-append, All-take, All-drop}
use Rattle.std.proofs.lemmas.List.Sums.{sum_by-cons, sum_by-le}
use Rattle.escpos_image.specs.Grays.{Grays, IsGrays}
use Rattle.escpos_image.specs.Scaling.{row_part, box_sum, mean, edge, scaled_height, scaled_dot, scaled_row, scaled_rows, scaled_to, scaled}
use Rattle.escpos_image.proofs.Ranges.{length_part}
use Rattle.escpos_image.proofs.Fields.{first_of_all, others_of_all}

least_sum : (least : ℕ) (xs : List ℕ) → All (λ x. least ≤ x) xs → length xs * least ≤ sum xs
least_sum least [] h = omega arith
least_sum least (x ∷ xs) h =
    let here = first_of_all (λ x. least ≤ x) x xs h in
    let rest = least_sum least xs (others_of_all (λ x. least ≤ x) x xs h) in
    omega (arith, sum_by-cons (λ (x : ℕ). x) x xs)

-- The gray values of a picture lie between these two.
pub record IsBetween (least most : ℕ) (p : Grays) : Type 0 where
  pub above : All (λ gray. least ≤ gray) p.grays
  pub below : All (λ gray. gray ≤ most) p.grays

-- A box within the picture.
pub record IsBox (p : Grays) (left right : ℕ) : Type 0 where
  pub some : left < right
  pub inside : right ≤ p.width

row_between : (p : Grays) (least most left right y : ℕ) → IsGrays p → IsBetween least most p → IsBox p left right → y < p.height → ((right - left) * least ≤ sum (row_part p.width p.grays left right y)) × (sum (row_part p.width p.grays left right y) ≤ (right - left) * most)
row_between p least most left right y whole between box inside =
    let start = y * p.width + left in
    let end = y * p.width + right in
    let part = row_part p.width p.grays left right y in
    let within = mul-add-lt y p.width (right - 1) p.height inside (omega (arith, box.some, box.inside)) in
    let long : length part ≡ right - left = length_part p.grays start end (omega (arith, box.some)) (omega (arith, whole.whole, box.some)) ∙ omega (arith, box.some) in
    let above : All (λ gray. least ≤ gray) part = All-take (λ gray. least ≤ gray) (end - start) (drop start p.grays) (All-drop (λ gray. least ≤ gray) start p.grays between.above) in
    let below : All (λ gray. gray ≤ most) part = All-take (λ gray. gray ≤ most) (end - start) (drop start p.grays) (All-drop (λ gray. gray ≤ most) start p.grays between.below) in
    (rw long at (least_sum least part above), rw long at (sum_by-le (λ (x : ℕ). x) most part below))

box_between : (p : Grays) (least most left right : ℕ) → IsGrays p → IsBetween least most p → IsBox p left right → (rows top : ℕ) → top + rows ≤ p.height → (rows * ((right - left) * least) ≤ box_sum p.width p.grays left right top rows) × (box_sum p.width p.grays left right top rows ≤ rows * ((right - left) * most))
box_between p least most left right whole between box zero top inside = (omega arith, omega arith)
box_between p least most left right whole between box (suc rows) top inside =
    let row = row_between p least most left right top whole between box (omega arith) in
    let below = box_between p least most left right whole between box rows (top + 1) (omega arith) in
    let f : ℕ → ℕ = λ y. sum (row_part p.width p.grays left right y) in
    let joined = sum_by-cons (λ (x : ℕ). x) (f top) (map f (range_with_len (top + 1) rows)) in
    (omega (arith, joined, row.0, below.0), omega (arith, joined, row.1, below.1))

some_cells : (wide rows : ℕ) → 0 < wide → 0 < rows → 0 < wide * rows
some_cells wide rows some_wide some_rows = grind arith

between_means : (total wide rows least most : ℕ) → 0 < wide → 0 < rows → rows * (wide * least) ≤ total → total ≤ rows * (wide * most) → (least ≤ total / (wide * rows)) × (total / (wide * rows) ≤ most)
between_means total wide rows least most some_wide some_rows low high =
    ((le-div_iff_mul-le (some_cells wide rows some_wide some_rows)).1 (omega arith), div-le_of_le-mul (wide * rows) (omega arith))

mean_between : (p : Grays) (least most left right top bottom : ℕ) → IsGrays p → IsBetween least most p → IsBox p left right → top < bottom → bottom ≤ p.height → (least ≤ mean p.width p.grays left right top bottom) × (mean p.width p.grays left right top bottom ≤ most)
unfolding mean
mean_between p least most left right top bottom whole between box some inside =
    let rows = bottom - top in
    let wide = right - left in
    let total = box_sum p.width p.grays left right top rows in
    let both = box_between p least most left right whole between box rows top (omega arith) in
    (between_means total wide rows least most (omega (arith, box.some)) (omega arith) both.0 both.1)

all_of_one : (P : ℕ → Type 0) (x : ℕ) → P x → All P (x ∷ [])
all_of_one P x h zero d inside = h
all_of_one P x h (suc k) d inside = absurd (omega arith)

all_of_range : (P : ℕ → Type 0) (f : ℕ → ℕ) (first n : ℕ) → ((i : ℕ) → first ≤ i → i < first + n → P (f i)) → All P (map f (range_with_len first n))
all_of_range P f first zero h = λ k d inside. absurd (omega arith)
all_of_range P f first (suc n) h =
    All-append P (f first ∷ []) (map f (range_with_len (first + 1) n)) (all_of_one P (f first) (h first (omega arith) (omega arith)))
    (all_of_range P f (first + 1) n (λ i low high. h i (omega arith) (omega arith)))

all_of_rows : (P : ℕ → Type 0) (f : ℕ → List ℕ) (first n : ℕ) → ((i : ℕ) → first ≤ i → i < first + n → All P (f i)) → All P (flat_map f (range_with_len first n))
all_of_rows P f first zero h = λ k d inside. absurd (omega arith)
all_of_rows P f first (suc n) h =
    All-append P (f first) (flat_map f (range_with_len (first + 1) n)) (h first (omega arith) (omega arith))
    (all_of_rows P f (first + 1) n (λ i low high. h i (omega arith) (omega arith)))

edge_apart : (places boxes k : ℕ) → 1 ≤ boxes → boxes ≤ places → edge places boxes k < edge places boxes (k + 1)
edge_apart places boxes k some fewer = grind (arith, common_steps)

edge_within : (places boxes k : ℕ) → 1 ≤ boxes → k ≤ boxes → edge places boxes k ≤ places
edge_within places boxes k some inside = div-le_of_le-mul boxes (mul-le-mul_right places inside)

height_within : (width height to : ℕ) → 1 ≤ to → to ≤ width → 1 ≤ height → scaled_height width height to ≤ height
height_within width height to some narrower high =
    let less : height * to / width ≤ height = div-le_of_le-mul width (omega (arith, mul-le-mul_left height narrower)) in
    omega arith

dot_between : (p : Grays) (least most width height j i : ℕ) → IsGrays p → IsBetween least most p → 1 ≤ width → width ≤ p.width → 1 ≤ height → height ≤ p.height → j < height → i < width → (least ≤ scaled_dot p width height j i) × (scaled_dot p width height j i ≤ most)
dot_between p least most width height j i whole between wide narrower high lower row column =
    mean_between p least most (edge p.width width i) (edge p.width width (i + 1)) (edge p.height height j) (edge p.height height (j + 1)) whole between
    (record { some = edge_apart p.width width i wide narrower; inside = edge_within p.width width (i + 1) wide (omega arith) })
    (edge_apart p.height height j high lower) (edge_within p.height height (j + 1) high (omega arith))

abbrev Between : ℕ → ℕ → ℕ → Type 0
Between least most gray = (least ≤ gray) × (gray ≤ most)

rows_between : (p : Grays) (least most width height : ℕ) → IsGrays p → IsBetween least most p → 1 ≤ width → width ≤ p.width → 1 ≤ height → height ≤ p.height → All (Between least most) (scaled_rows p width height height)
unfolding scaled_row
rows_between p least most width height whole between wide narrower high lower =
    all_of_rows (Between least most) (scaled_row p width height) 0 height (λ j from row.
    all_of_range (Between least most) (scaled_dot p width height j) 0 width (λ i from column.
    dot_between p least most width height j i whole between wide narrower high lower (omega arith) (omega arith)))

scaled_between : (b : Bool) (p : Grays) (least most width : ℕ) → leb p.width width ≡ b → IsGrays p → IsBetween least most p → 1 ≤ width → All (Between least most) (if b then p else scaled_to p width (scaled_height p.width p.height width)).grays
scaled_between true p least most width is whole between wide = λ k d inside. (between.above k d inside, between.below k d inside)
scaled_between false p least most width is whole between wide =
    let narrower : width ≤ p.width = omega (arith, leb-false p.width width is) in
    rows_between p least most width (scaled_height p.width p.height width) whole between wide narrower (omega arith)
    (height_within p.width p.height width wide narrower whole.high)

pub scaled_keeps_range : (p : Grays) (least most width : ℕ) → IsGrays p → 1 ≤ width → All (λ gray. least ≤ gray) p.grays → All (λ gray. gray ≤ most) p.grays → All (Between least most) (scaled p width).grays
unfolding scaled
scaled_keeps_range p least most width whole wide above below =
    scaled_between (leb p.width width) p least most width refl whole (record { above = above; below = below }) wide
