-- What is drawn, and of what.
use Rattle.std.proofs.Common.{◌≡◌, ℕ, List, map, true, Some}
use Rattle.std.specs.Prelude.{nat_le, sum}
use Rattle.escpos_command.specs.declared.bars.Symbology.{Symbology}
use Rattle.escpos_barcode.specs.Chains.{given}
use Rattle.escpos_barcode.specs.Drawn.{element_dots, fitting, is_module, drawn}
use Rattle.escpos_barcode.specs.Elements.{elements}
use Rattle.escpos_barcode.proofs.Lookups.{some_if, given_some, if_there}

pub record DrawnOf (symbology : Symbology) (module_width : ℕ) (content widths : List ℕ) : Type 0 where
  pub drawn_elements : List ℕ
  pub range : is_module module_width ≡ true
  pub said : elements symbology content ≡ Some drawn_elements
  pub dots : map (element_dots symbology module_width) drawn_elements ≡ widths

pub drawn_of : (line_dots : ℕ) (symbology : Symbology) (module_width : ℕ) (content widths : List ℕ) → drawn line_dots symbology module_width content ≡ Some widths →
    DrawnOf symbology module_width content widths
drawn_of line_dots symbology module_width content widths e =
    let range = if_there (is_module module_width) (given (elements symbology content) (λ es. fitting line_dots (map (element_dots symbology module_width) es))) widths e in
    let said = given_some (elements symbology content) (λ es. fitting line_dots (map (element_dots symbology module_width) es)) widths range.1 in
    let fits = some_if (nat_le (sum (map (element_dots symbology module_width) said.0)) line_dots) (map (element_dots symbology module_width) said.0) widths said.2 in
    record { drawn_elements = said.0; range = range.0; said = said.1; dots = fits.1 }
