-- Rows of dots as bytes: eight dots a byte, the leftmost in the highest bit, 1 for black. Bits past the end of a row are white.
use Rattle.std.specs.Prelude.{ℕ, ◌+◌, ◌*◌, ◌/◌, Bool, false, List, map, flat_map, take, drop, slice_index_or, if◌then◌else◌}
use Rattle.std.specs.List.{range_with_len}
use Rattle.escpos_image.specs.DotRows.{DotRows}

-- The bytes in a row of so many dots.
abbrev pub row_bytes : ℕ → ℕ
row_bytes width = (width + 7) / 8

-- Dot i of a row.
abbrev pub bit : List Bool → ℕ → ℕ
bit row i = if slice_index_or row i false then 1 else 0

-- Byte k of a row.
unfoldable pub packed_byte : List Bool → ℕ → ℕ
packed_byte row k =
    128 * bit row (8 * k) + 64 * bit row (8 * k + 1) + 32 * bit row (8 * k + 2) + 16 * bit row (8 * k + 3)
    + 8 * bit row (8 * k + 4) + 4 * bit row (8 * k + 5) + 2 * bit row (8 * k + 6) + bit row (8 * k + 7)

-- Row j of a picture.
abbrev pub row_of : DotRows → ℕ → List Bool
row_of p j = take p.width (drop (j * p.width) p.dots)

abbrev pub row_packed : List Bool → ℕ → List ℕ
row_packed row count = map (packed_byte row) (range_with_len 0 count)

unfoldable pub packed_row : DotRows → ℕ → List ℕ
packed_row p j = row_packed (row_of p j) (row_bytes p.width)

-- The bytes of so many rows, from this one on.
abbrev pub packed_rows : DotRows → ℕ → ℕ → List ℕ
packed_rows p first rows = flat_map (packed_row p) (range_with_len first rows)
