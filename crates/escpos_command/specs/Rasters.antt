-- Rasters: which sizes a picture made of dots may have. (Reference: GS v 0.)
use Rattle.std.specs.Prelude.{ℕ, ◌≡◌, ◌≢◌, ◌==◌, ◌&&◌, ◌*◌, nat_le, Bool, false, IsTrue, List, length}
use Rattle.std.specs.List.{list_all}
use Rattle.escpos_command.specs.declared.raster.RasterFault.{RasterFault}
use Rattle.escpos_command.specs.declared.raster.RasterFault.TheVariants as fault
use Rattle.escpos_command.specs.Parameters.{is_byte, is_one_of_four}

-- The model of a raster: the byte of its scale as sent, the bytes in each of its rows, the number of rows, and the dots,
-- row by row from the top, eight to a byte.
pub record Picture : Type 0 where
  pub scale : ℕ
  pub width : ℕ
  pub height : ℕ
  pub dots : List ℕ

abbrev pub picture : ℕ → ℕ → ℕ → List ℕ → Picture
picture scale width height dots = record { scale = scale; width = width; height = height; dots = dots }

-- The most bytes in a row, and the most rows.
abbrev pub widest : ℕ
widest = 128

abbrev pub highest : ℕ
highest = 4095

abbrev pub is_width : ℕ → Bool
is_width n = nat_le 1 n && nat_le n widest

abbrev pub is_height : ℕ → Bool
is_height n = nat_le 1 n && nat_le n highest

-- A scale of the table, a size in range, and as many bytes of dots as the size says.
abbrev pub is_raster : Picture → Bool
is_raster p =
    is_one_of_four p.scale && is_width p.width && is_height p.height && length p.dots == p.width * p.height && list_all is_byte p.dots

-- The first reason for which this isn't a raster.
abbrev pub IsRasterFault : RasterFault → Picture → Type 0
IsRasterFault fault.Scale p = is_one_of_four p.scale ≡ false
IsRasterFault fault.Width p = IsTrue (is_one_of_four p.scale) × (is_width p.width ≡ false)
IsRasterFault fault.Height p = IsTrue (is_one_of_four p.scale) × IsTrue (is_width p.width) × (is_height p.height ≡ false)
IsRasterFault fault.Length p =
    IsTrue (is_one_of_four p.scale) × IsTrue (is_width p.width) × IsTrue (is_height p.height)
    × (length p.dots ≢ p.width * p.height)
