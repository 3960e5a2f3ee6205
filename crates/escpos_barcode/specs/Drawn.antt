-- A barcode as the widths of its bars and spaces in dots. (Reference: GS w, GS k.)
use Rattle.std.specs.Prelude.{ℕ, ◌+◌, ◌*◌, ◌%◌, ◌==◌, ◌&&◌, nat_le, Bool, true, false, List, [], ◌∷◌, ◌++◌, map, flat_map, sum, Option, None, Some, if◌then◌else◌}
use Rattle.escpos_command.specs.declared.bars.Symbology.{Symbology}
use Rattle.escpos_command.specs.declared.bars.Symbology.TheVariants.{UpcE, Code39, Itf, Codabar, Gs1Code128}
use Rattle.escpos_barcode.specs.Chains.{given}
use Rattle.escpos_barcode.specs.Elements.{elements, upce_parts, short_form, upper}
use Rattle.escpos_barcode.specs.Gs1.{gs1_parts, said, spelled_part}
use Rattle.escpos_barcode.specs.declared.gs1.Part.{Part}

-- The elements are narrow or wide, and not 1 to 4 modules wide.
abbrev pub has_two_widths : Symbology → Bool
has_two_widths Code39 = true
has_two_widths Itf = true
has_two_widths Codabar = true
has_two_widths symbology = false

-- A wide element in dots, where a narrow one has 2 to 6.
abbrev pub wide : ℕ → ℕ
wide module_width = if module_width == 2 then 5 else if module_width == 3 then 8 else if module_width == 4 then 10 else if module_width == 5 then 13 else 16

abbrev pub element_dots : Symbology → ℕ → ℕ → ℕ
element_dots symbology module_width k = if has_two_widths symbology then (if k == 1 then module_width else wide module_width) else k * module_width

-- Widths that fit on a line of so many dots.
abbrev pub fitting : ℕ → List ℕ → Option (List ℕ)
fitting line_dots widths = if nat_le (sum widths) line_dots then Some widths else None

abbrev pub is_module : ℕ → Bool
is_module module_width = nat_le 2 module_width && nat_le module_width 6

-- A bar or a space has 2 to 24 dots.
abbrev pub is_run : ℕ → Bool
is_run w = nat_le 2 w && nat_le w 24

-- On a line of so many dots. `None`: not scannable.
abbrev pub drawn : ℕ → Symbology → ℕ → List ℕ → Option (List ℕ)
drawn line_dots symbology module_width content =
    if is_module module_width then given (elements symbology content) (λ es. fitting line_dots (map (element_dots symbology module_width) es)) else None

-- The check digit that is added to a content: 0 to 9, and of any other number the last digit.
abbrev pub with_added : List ℕ → Option ℕ → List ℕ
with_added content None = content
with_added content (Some n) = content ++ (0x30 + n % 10) ∷ []

-- GS1-128 without what is only shown, and with its check digits.
abbrev pub said_form : List ℕ → Option (List Part) → List ℕ
said_form content None = content
said_form content (Some parts) = flat_map spelled_part (said parts)

-- The content as it is read back: UPC-E as eight digits, and the letters of CODABAR's ends in upper case. (It has no letters between
-- them.)
abbrev pub canonical : Symbology → List ℕ → List ℕ
canonical UpcE content = short_form content (upce_parts content)
canonical Codabar content = map upper content
canonical Gs1Code128 content = said_form content (gs1_parts content)
canonical symbology content = content
