-- What is drawn so far.
use Rattle.std.specs.Prelude.{ℕ, ◌&&◌, nat_le, Bool, List, [], ◌∷◌, ◌++◌, map, Option, None, Some}
use Rattle.escpos_command.specs.declared.bars.Symbology.{Symbology}
use Rattle.escpos_barcode.specs.Drawn.{element_dots, fitting}

-- An element is 1 to 4 modules wide.
abbrev pub is_element : ℕ → Bool
is_element k = nat_le 1 k && nat_le k 4

-- The dots of the line, the symbology and the module width that is drawn with, and the widths so far; `None`: they don't fit on
-- the line.
pub record Drawing : Type 0 where
  pub line_dots : ℕ
  pub symbology : Symbology
  pub module_width : ℕ
  pub widths : Option (List ℕ)

-- One more width; once something didn't fit, nothing does.
abbrev pub put : ℕ → Option (List ℕ) → ℕ → Option (List ℕ)
put line_dots None w = None
put line_dots (Some ws) w = fitting line_dots (ws ++ w ∷ [])

abbrev pub more : ℕ → Option (List ℕ) → List ℕ → Option (List ℕ)
more line_dots o [] = o
more line_dots o (w ∷ ws) = more line_dots (put line_dots o w) ws

-- Further widths in dots
abbrev pub add : Drawing → List ℕ → Drawing
add d ws = record { line_dots = d.line_dots; symbology = d.symbology; module_width = d.module_width; widths = more d.line_dots d.widths ws }

-- Further elements
abbrev pub draw : Drawing → List ℕ → Drawing
draw d es = add d (map (element_dots d.symbology d.module_width) es)

-- The elements of a content, if it has some.
abbrev pub attempt : Drawing → Option (List ℕ) → Drawing
attempt d None = d
attempt d (Some es) = draw d es

abbrev pub blank : ℕ → Symbology → ℕ → Drawing
blank line_dots symbology module_width = record { line_dots = line_dots; symbology = symbology; module_width = module_width; widths = Some [] }
