-- The model of a gray picture.
use Rattle.std.specs.Prelude.{◌≡◌, ℕ, ◌*◌, ◌≤◌, List, length}
use Rattle.escpos_image.specs.declared.header.TheConstants.{GREATEST}

-- Its gray values, 0 for black to 255 for white, row by row from the top, and from left to right.
pub record Grays : Type 0 where
  pub width : ℕ
  pub height : ℕ
  pub grays : List ℕ

abbrev pub grays_of : ℕ → ℕ → List ℕ → Grays
grays_of width height grays = record { width = width; height = height; grays = grays }

-- What holds of every gray picture: it has a dot, and one value for each.
pub record IsGrays (p : Grays) : Type 0 where
  pub wide : 1 ≤ p.width
  pub not_too_wide : p.width ≤ GREATEST
  pub high : 1 ≤ p.height
  pub not_too_high : p.height ≤ GREATEST
  pub whole : length p.grays ≡ p.width * p.height
