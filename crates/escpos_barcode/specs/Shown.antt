-- The human readable interpretation: what stands as text beside the bars. (Reference: GS H.)
use Rattle.std.specs.Prelude.{ℕ, ◌+◌, ◌/◌, ◌%◌, ◌&&◌, nat_le, Bool, List, [], ◌∷◌, ◌++◌, map, flat_map, Option, None, Some, if◌then◌else◌}
use Rattle.escpos_command.specs.declared.bars.Symbology.{Symbology}
use Rattle.escpos_command.specs.declared.bars.Symbology.TheVariants.{UpcE, Code128, Gs1Code128}
use Rattle.escpos_barcode.specs.declared.code128.CodeSet.{CodeSet}
use Rattle.escpos_barcode.specs.declared.code128.CodeSet.TheVariants.{A, B, C}
use Rattle.escpos_barcode.specs.declared.code128.Character.{Character}
use Rattle.escpos_barcode.specs.declared.code128.Character.TheVariants.{Byte, Function1, Function2, Function3, Function4, Shift, Code}
use Rattle.escpos_barcode.specs.declared.gs1.Part.{Part}
use Rattle.escpos_barcode.specs.declared.gs1.Part.TheVariants as part
use Rattle.escpos_barcode.specs.Code128.{characters, set_after}
use Rattle.escpos_barcode.specs.Elements.{upce_parts, short_form}
use Rattle.escpos_barcode.specs.Gs1.{gs1_parts}

abbrev pub is_printable : ℕ → Bool
is_printable b = nat_le 0x20 b && nat_le b 0x7E

-- A byte 20 to 7E stands as itself, and any other as a space.
abbrev pub printable : ℕ → ℕ
printable b = if is_printable b then b else 0x20

-- A byte of data; in code set C two digits.
abbrev pub shown_byte : CodeSet → ℕ → List ℕ
shown_byte A b = printable b ∷ []
shown_byte B b = printable b ∷ []
shown_byte C b = (0x30 + b / 10 % 10) ∷ (0x30 + b % 10) ∷ []

-- Data is shown, and a function character as a space.
abbrev pub shown_character : CodeSet → Character → List ℕ
shown_character set (Byte b) = shown_byte set b
shown_character set Function1 = 0x20 ∷ []
shown_character set Function2 = 0x20 ∷ []
shown_character set Function3 = 0x20 ∷ []
shown_character set Function4 = 0x20 ∷ []
shown_character set Shift = []
shown_character set (Code next) = []

abbrev pub shown_characters : CodeSet → List Character → List ℕ
shown_characters set [] = []
shown_characters set (c ∷ cs) = shown_character set c ++ shown_characters (set_after set c) cs

-- The set before the first character doesn't matter, which should name one.
abbrev pub shown_code128 : Option (List Character) → List ℕ
shown_code128 None = []
shown_code128 (Some cs) = shown_characters B cs

-- GS1-128 shows its data and its parentheses and spaces, and a function character as a space.
abbrev pub shown_part : Part → List ℕ
shown_part (part.Data b) = printable b ∷ []
shown_part (part.Shown b) = printable b ∷ []
shown_part part.Function1 = 0x20 ∷ []
shown_part part.Function3 = 0x20 ∷ []
shown_part part.CheckDigit = []

abbrev pub shown_gs1 : Option (List Part) → List ℕ
shown_gs1 None = []
shown_gs1 (Some parts) = flat_map shown_part parts

-- A content that can't be spelled is shown by the same rule: nothing, where a content of CODE128 or GS1-128 has a brace with no meaning, or
-- one of GS1-128 a check digit of nothing.
abbrev pub shown : Symbology → List ℕ → List ℕ
shown UpcE content = map printable (short_form content (upce_parts content))
shown Code128 content = shown_code128 (characters content)
shown Gs1Code128 content = shown_gs1 (gs1_parts content)
shown symbology content = map printable content
