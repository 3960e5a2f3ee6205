-- The model of a picture of black and white dots.
use Rattle.std.specs.Prelude.{◌≡◌, ℕ, ◌*◌, ◌≤◌, Bool, List, length}
use Rattle.escpos_image.specs.declared.header.TheConstants.{GREATEST}

-- Its dots, true for black, row by row from the top, and from left to right.
pub record DotRows : Type 0 where
  pub width : ℕ
  pub height : ℕ
  pub dots : List Bool

abbrev pub dot_rows : ℕ → ℕ → List Bool → DotRows
dot_rows width height dots = record { width = width; height = height; dots = dots }

-- What holds of every picture of dots.
pub record IsDotRows (p : DotRows) : Type 0 where
  pub wide : 1 ≤ p.width
  pub not_too_wide : p.width ≤ GREATEST
  pub high : 1 ≤ p.height
  pub not_too_high : p.height ≤ GREATEST
  pub whole : length p.dots ≡ p.width * p.height
