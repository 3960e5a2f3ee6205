-- A picture scaled down to a width: each dot is the mean of its box.
use Rattle.std.specs.Prelude.{ℕ, ◌+◌, ◌-◌, ◌*◌, ◌/◌, nat_le, max, List, map, flat_map, sum, slice_range, if◌then◌else◌}
use Rattle.std.specs.List.{range_with_len}
use Rattle.escpos_image.specs.Grays.{Grays, grays_of}

-- The height in proportion, at least a row.
abbrev pub scaled_height : ℕ → ℕ → ℕ → ℕ
scaled_height width height to = max 1 (height * to / width)

-- Where box k begins, if so many places are cut into so many boxes, and so where box k - 1 ends.
abbrev pub edge : ℕ → ℕ → ℕ → ℕ
edge places boxes k = k * places / boxes

-- The gray values of a row of this width, from a column up to another.
abbrev pub row_part : ℕ → List ℕ → ℕ → ℕ → ℕ → List ℕ
row_part width grays left right y = slice_range grays (y * width + left) (y * width + right)

-- The sum of a box of so many rows, from row `top` on.
abbrev pub box_sum : ℕ → List ℕ → ℕ → ℕ → ℕ → ℕ → ℕ
box_sum width grays left right top rows = sum (map (λ y. sum (row_part width grays left right y)) (range_with_len top rows))

-- The mean of a box, from `left` up to `right` and from `top` up to `bottom`, rounded down.
unfoldable pub mean : ℕ → List ℕ → ℕ → ℕ → ℕ → ℕ → ℕ
mean width grays left right top bottom =
    box_sum width grays left right top (bottom - top) / ((right - left) * (bottom - top))

-- The dot in column i and row j of a picture that is scaled to this width and height.
abbrev pub scaled_dot : Grays → ℕ → ℕ → ℕ → ℕ → ℕ
scaled_dot p width height j i =
    mean p.width p.grays (edge p.width width i) (edge p.width width (i + 1)) (edge p.height height j) (edge p.height height (j + 1))

-- Row j.
unfoldable pub scaled_row : Grays → ℕ → ℕ → ℕ → List ℕ
scaled_row p width height j = map (scaled_dot p width height j) (range_with_len 0 width)

-- The first rows.
abbrev pub scaled_rows : Grays → ℕ → ℕ → ℕ → List ℕ
scaled_rows p width height rows = flat_map (scaled_row p width height) (range_with_len 0 rows)

abbrev pub scaled_to : Grays → ℕ → ℕ → Grays
scaled_to p width height = grays_of width height (scaled_rows p width height height)

-- A picture that is no wider than this width stays as it is.
unfoldable pub scaled : Grays → ℕ → Grays
scaled p width = if nat_le p.width width then p else scaled_to p width (scaled_height p.width p.height width)
