-- Barcode contents: which numbers a symbology has, how long its content may be, and which byte may stand where.
-- (Reference: GS k.)
use Rattle.std.specs.Prelude.{ℕ, ◌==◌, ◌&&◌, ◌||◌, ◌+◌, ◌%◌, ◌≡◌, ◌<◌, nat_le, nat_lt, Bool, true, false, IsTrue, List, [], ◌∷◌, length, take, slice_index, nat_eq, if◌then◌else◌}
use Rattle.std.specs.Cmp.{IsEquivalence}
use Rattle.std.specs.Cmp.Lexicographic.{pointwise, nat_list_eq_equiv}
use Rattle.std.proofs.lemmas.Cmp.{and_equiv, on_equiv, nat_eq_equiv}
use Rattle.escpos_command.specs.declared.bars.BarFault.{BarFault}
use Rattle.escpos_command.specs.declared.bars.BarFault.TheVariants as fault
use Rattle.escpos_command.specs.declared.bars.Form.{Form}
use Rattle.escpos_command.specs.declared.bars.Form.TheVariants.{A, B}
use Rattle.escpos_command.specs.declared.bars.Symbology.{Symbology}
use Rattle.escpos_command.specs.declared.bars.Symbology.TheVariants.{UpcA, UpcE, Ean13, Ean8, Code39, Itf, Codabar, Code93, Code128, Gs1Code128}

-- The model of a barcode: its form, its symbology and its content, the bytes that it encodes.
pub record Barcode : Type 0 where
  pub form : Form
  pub symbology : Symbology
  pub content : List ℕ

abbrev pub barcode : Form → Symbology → List ℕ → Barcode
barcode form symbology content = record { form = form; symbology = symbology; content = content }

-- The byte m of GS k is this number in form A, and 65 more in form B.
abbrev pub symbology_number : Symbology → ℕ
symbology_number UpcA = 0
symbology_number UpcE = 1
symbology_number Ean13 = 2
symbology_number Ean8 = 3
symbology_number Code39 = 4
symbology_number Itf = 5
symbology_number Codabar = 6
symbology_number Code93 = 7
symbology_number Code128 = 8
symbology_number Gs1Code128 = 9

abbrev pub barcode_mode : Form → Symbology → ℕ
barcode_mode A symbology = symbology_number symbology
barcode_mode B symbology = 65 + symbology_number symbology

-- Form A ends with a byte 00, so it has none of the symbologies whose content may hold one.
abbrev pub has_form : Form → Symbology → Bool
has_form B symbology = true
has_form A Code93 = false
has_form A Code128 = false
has_form A Gs1Code128 = false
has_form A symbology = true

-- ## Bytes

-- 0 to 9
abbrev pub is_digit : ℕ → Bool
is_digit b = nat_le 0x30 b && nat_le b 0x39

-- 0 to 9, A to Z, and space $ % * + - . /
abbrev pub is_code39 : ℕ → Bool
is_code39 b =
    is_digit b || nat_le 0x41 b && nat_le b 0x5A || b == 0x20 || b == 0x24 || b == 0x25 || b == 0x2A || b == 0x2B || b == 0x2D
    || b == 0x2E || b == 0x2F

-- 0 to 9, and $ + - . / :
abbrev pub is_codabar : ℕ → Bool
is_codabar b = is_digit b || b == 0x24 || b == 0x2B || b == 0x2D || b == 0x2E || b == 0x2F || b == 0x3A

-- A to D and a to d, with which a content of CODABAR starts and stops
abbrev pub is_codabar_end : ℕ → Bool
is_codabar_end b = nat_le 0x41 b && nat_le b 0x44 || nat_le 0x61 b && nat_le b 0x64

-- the code sets A, B and C, which a content of CODE128 names after its first byte, {
abbrev pub is_code_set : ℕ → Bool
is_code_set b = nat_le 0x41 b && nat_le b 0x43

-- ## Contents

-- With which a content of UPC-E may begin: six digits stand without their number system, which is 0, and longer ones begin with it.
abbrev pub is_upce_first : ℕ → ℕ → Bool
is_upce_first n b = if n == 6 then is_digit b else b == 0x30

-- A content of this symbology may have this many bytes.
abbrev pub has_length : Symbology → ℕ → Bool
has_length UpcA n = n == 11 || n == 12
has_length UpcE n = n == 6 || n == 7 || n == 8 || n == 11 || n == 12
has_length Ean13 n = n == 12 || n == 13
has_length Ean8 n = n == 7 || n == 8
has_length Code39 n = nat_le 1 n && nat_le n 255
has_length Itf n = nat_le 2 n && nat_le n 254 && n % 2 == 0
has_length Codabar n = nat_le 2 n && nat_le n 255
has_length Code93 n = nat_le 1 n && nat_le n 255
has_length Code128 n = nat_le 2 n && nat_le n 255
has_length Gs1Code128 n = nat_le 2 n && nat_le n 255

-- In a content of n bytes the byte b may stand at this place, counted from 0.
abbrev pub allows : Symbology → ℕ → ℕ → ℕ → Bool
allows UpcA n place b = is_digit b
allows UpcE n place b = if place == 0 then is_upce_first n b else is_digit b
allows Ean13 n place b = is_digit b
allows Ean8 n place b = is_digit b
allows Code39 n place b = is_code39 b
allows Itf n place b = is_digit b
allows Codabar n place b = if place == 0 || place + 1 == n then is_codabar_end b else is_codabar b
allows Code93 n place b = nat_lt b 0x80
allows Code128 n place b = if place == 0 then b == 0x7B else if place == 1 then is_code_set b else nat_lt b 0x80
allows Gs1Code128 n place b = nat_lt b 0x80

-- A test of place and byte holds for all bytes of a list whose first byte is at this place.
abbrev pub all_from : ℕ → (ℕ → ℕ → Bool) → List ℕ → Bool
all_from place test [] = true
all_from place test (b ∷ bs) = test place b && all_from (place + 1) test bs

-- The bytes are a content of this symbology.
abbrev pub is_content : Symbology → List ℕ → Bool
is_content symbology content =
    has_length symbology (length content) && all_from 0 (allows symbology (length content)) content

-- The symbology has the form, and the content is one of its contents.
abbrev pub is_barcode : Barcode → Bool
is_barcode barcode = has_form barcode.form barcode.symbology && is_content barcode.symbology barcode.content

-- ## Refusals

-- The byte at this place is the first that the test refuses where it stands.
pub record IsLeast (at : ℕ) (test : ℕ → ℕ → Bool) (bs : List ℕ) : Type 0 where
  pub inside : at < length bs
  pub refused : test at (slice_index bs at) ≡ false
  pub before : IsTrue (all_from 0 test (take at bs))

-- The first reason for which this isn't a barcode.
abbrev pub IsBarFault : BarFault → Barcode → Type 0
IsBarFault fault.Form bars = has_form bars.form bars.symbology ≡ false
IsBarFault fault.Length bars = IsTrue (has_form bars.form bars.symbology) × (has_length bars.symbology (length bars.content) ≡ false)
IsBarFault (fault.Byte at) bars =
    IsTrue (has_form bars.form bars.symbology) × IsTrue (has_length bars.symbology (length bars.content))
    × IsLeast at (allows bars.symbology (length bars.content)) bars.content

-- Barcodes with the same mode and content are the same.
abbrev pub same_barcode : Barcode → Barcode → Bool
same_barcode a b = nat_eq (barcode_mode a.form a.symbology) (barcode_mode b.form b.symbology) && pointwise nat_eq a.content b.content

pub same_barcode_equiv : IsEquivalence same_barcode
same_barcode_equiv =
    and_equiv (on_equiv (λ (b : Barcode). barcode_mode b.form b.symbology) nat_eq_equiv) (on_equiv (λ (b : Barcode). b.content) nat_list_eq_equiv)
