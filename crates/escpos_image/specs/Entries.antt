-- A picture as entries of a receipt's text in JSON: a raster for each band of at most HIGHEST rows, in order.
use Rattle.std.specs.Prelude.{ℕ, ◌+◌, ◌-◌, ◌*◌, ◌/◌, ◌==◌, min, List, ◌++◌, flat_map, codes, decimal, if◌then◌else◌}
use Rattle.std.specs.List.{range_with_len}
use Rattle.hex.specs.Hex.{encode_lower}
use Rattle.escpos_command.specs.declared.raster.TheConstants.{HIGHEST}
use Rattle.escpos_image.specs.DotRows.{DotRows}
use Rattle.escpos_image.specs.Blackening.{safe_dots}
use Rattle.escpos_image.specs.Packing.{row_bytes, packed_rows}

-- How many bands so many rows make.
abbrev pub band_count : ℕ → ℕ
band_count rows = (rows + (HIGHEST - 1)) / HIGHEST

-- How many rows band b has, of so many in all.
abbrev pub band_rows : ℕ → ℕ → ℕ
band_rows rows b = min HIGHEST (rows - b * HIGHEST)

-- A raster of `x` bytes a row and `y` rows.
unfoldable pub raster_entry : ℕ → ℕ → List ℕ → List ℕ
raster_entry x y dots =
    codes "{\"raster\":{\"scale\":\"normal\",\"x\":" ++ decimal x ++ codes ",\"y\":" ++ decimal y ++ codes ",\"dots\":\""
    ++ encode_lower dots ++ codes "\"}}"

-- The dots of band b.
abbrev pub band_dots : DotRows → ℕ → List ℕ
band_dots p b = safe_dots (band_rows p.height b) (packed_rows p (b * HIGHEST) (band_rows p.height b))

-- The entry of band b.
abbrev pub band_entry : DotRows → ℕ → List ℕ
band_entry p b = raster_entry (row_bytes p.width) (band_rows p.height b) (band_dots p b)

-- A comma comes between two entries, and each has a line.
abbrev pub line_end : ℕ → ℕ → List ℕ
line_end count b = if b + 1 == count then codes "\n" else codes ",\n"

unfoldable pub entry_line : DotRows → ℕ → List ℕ
entry_line p b = band_entry p b ++ line_end (band_count p.height) b

-- All entries.
unfoldable pub entries_text : DotRows → List ℕ
entries_text p = flat_map (entry_line p) (range_with_len 0 (band_count p.height))
