-- The black and white dots of a gray picture.
use Rattle.std.specs.Prelude.{ℕ, nat_lt, Bool, List, map, replicate, Option, Some, None}
use Rattle.escpos_image.specs.declared.diffusion.TheConstants.{NO_ERROR}
use Rattle.escpos_image.specs.Grays.{Grays}
use Rattle.escpos_image.specs.DotRows.{DotRows, dot_rows}
use Rattle.escpos_image.specs.Diffusion.{diffused_rows}

-- A dot is black exactly where its gray value is below the threshold.
abbrev pub below : ℕ → List ℕ → List Bool
below threshold grays = map (λ gray. nat_lt gray threshold) grays

-- Errors are diffused; above the first row there are none.
unfoldable pub diffused : Grays → List Bool
diffused p = diffused_rows p.width (replicate p.width NO_ERROR) p.height p.grays

abbrev pub shades : Option ℕ → Grays → List Bool
shades (Some threshold) p = below threshold p.grays
shades None p = diffused p

-- The dots by a threshold, or without one by error diffusion.
unfoldable pub shaded : Option ℕ → Grays → DotRows
shaded threshold p = dot_rows p.width p.height (shades threshold p)
