-- What is shown is printable.
use Rattle.std.proofs.Common.{◌≡◌, ℕ, ◌+◌, ◌<◌, List, [], ◌∷◌, map, refl, arith, true, false, Bool, Option, Some, None}
use Rattle.std.specs.Prelude.{◌&&◌, ◌/◌, ◌%◌, nat_le, flat_map, IsTrue, if◌then◌else◌}
use Rattle.std.specs.List.{list_all}
use Rattle.std.proofs.lemmas.Bool.{and_from, le-leb}
use Rattle.escpos_command.specs.declared.bars.Symbology.{Symbology}
use Rattle.escpos_command.specs.declared.bars.Symbology.TheVariants.{UpcA, UpcE, Ean13, Ean8, Code39, Itf, Codabar, Code93, Code128, Gs1Code128}
use Rattle.escpos_barcode.specs.declared.code128.CodeSet.{CodeSet}
use Rattle.escpos_barcode.specs.declared.code128.CodeSet.TheVariants.{A, B, C}
use Rattle.escpos_barcode.specs.declared.code128.Character.{Character}
use Rattle.escpos_barcode.specs.declared.code128.Character.TheVariants.{Byte, Function1, Function2, Function3, Function4, Shift, Code}
use Rattle.escpos_barcode.specs.declared.gs1.Part.{Part}
use Rattle.escpos_barcode.specs.declared.gs1.Part.TheVariants as part
use Rattle.escpos_barcode.specs.Code128.{characters, set_after}
use Rattle.escpos_barcode.specs.Elements.{upce_parts, short_form}
use Rattle.escpos_barcode.specs.Gs1.{gs1_parts}
use Rattle.escpos_barcode.specs.Shown.{is_printable, printable, shown_character, shown_characters, shown_code128, shown_part, shown_gs1, shown}
use Rattle.escpos_barcode.proofs.Lookups.{all_append}

byte_printable : (b : ℕ) → is_printable (printable b) ≡ true
byte_printable b = either (is_printable b) refl
  where
    either : (t : Bool) → is_printable b ≡ t → is_printable (if t then b else 0x20) ≡ true
    either true e = e
    either false e = refl

digit_printable : (n : ℕ) → n < 10 → is_printable (0x30 + n) ≡ true
digit_printable n h = and_from (nat_le 0x20 (0x30 + n)) (nat_le (0x30 + n) 0x7E) (le-leb 0x20 (0x30 + n) (omega arith)) (le-leb (0x30 + n) 0x7E (omega arith))

bytes_printable : (bs : List ℕ) → list_all is_printable (map printable bs) ≡ true
bytes_printable [] = refl
bytes_printable (b ∷ bs) = and_from (is_printable (printable b)) (list_all is_printable (map printable bs)) (byte_printable b) (bytes_printable bs)

character_printable : (set : CodeSet) (c : Character) → list_all is_printable (shown_character set c) ≡ true
character_printable A (Byte b) = and_from (is_printable (printable b)) true (byte_printable b) refl
character_printable B (Byte b) = and_from (is_printable (printable b)) true (byte_printable b) refl
character_printable C (Byte b) =
    and_from (is_printable (0x30 + b / 10 % 10)) (is_printable (0x30 + b % 10) && true) (digit_printable (b / 10 % 10) (omega arith))
    (and_from (is_printable (0x30 + b % 10)) true (digit_printable (b % 10) (omega arith)) refl)
character_printable set Function1 = refl
character_printable set Function2 = refl
character_printable set Function3 = refl
character_printable set Function4 = refl
character_printable set Shift = refl
character_printable set (Code next) = refl

characters_printable : (set : CodeSet) (cs : List Character) → list_all is_printable (shown_characters set cs) ≡ true
characters_printable set [] = refl
characters_printable set (c ∷ cs) =
    all_append is_printable (shown_character set c) (shown_characters (set_after set c) cs) (character_printable set c) (characters_printable (set_after set c) cs)

code128_printable : (o : Option (List Character)) → list_all is_printable (shown_code128 o) ≡ true
code128_printable None = refl
code128_printable (Some cs) = characters_printable B cs

part_printable : (p : Part) → list_all is_printable (shown_part p) ≡ true
part_printable (part.Data b) = and_from (is_printable (printable b)) true (byte_printable b) refl
part_printable (part.Shown b) = and_from (is_printable (printable b)) true (byte_printable b) refl
part_printable part.Function1 = refl
part_printable part.Function3 = refl
part_printable part.CheckDigit = refl

parts_printable : (ps : List Part) → list_all is_printable (flat_map shown_part ps) ≡ true
parts_printable [] = refl
parts_printable (p ∷ ps) = all_append is_printable (shown_part p) (flat_map shown_part ps) (part_printable p) (parts_printable ps)

gs1_printable : (o : Option (List Part)) → list_all is_printable (shown_gs1 o) ≡ true
gs1_printable None = refl
gs1_printable (Some ps) = parts_printable ps

pub printable_shown : (symbology : Symbology) (content : List ℕ) → IsTrue (list_all is_printable (shown symbology content))
printable_shown UpcA content = bytes_printable content
printable_shown UpcE content = bytes_printable (short_form content (upce_parts content))
printable_shown Ean13 content = bytes_printable content
printable_shown Ean8 content = bytes_printable content
printable_shown Code39 content = bytes_printable content
printable_shown Itf content = bytes_printable content
printable_shown Codabar content = bytes_printable content
printable_shown Code93 content = bytes_printable content
printable_shown Code128 content = code128_printable (characters content)
printable_shown Gs1Code128 content = gs1_printable (gs1_parts content)
