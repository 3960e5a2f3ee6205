-- GS1-128: what a content says, and the characters of CODE128 that are drawn of it. (Reference: GS k.)
use Rattle.std.specs.Prelude.{ℕ, ◌+◌, ◌-◌, ◌*◌, ◌%◌, ◌==◌, ◌&&◌, ◌||◌, nat_le, nat_lt, Bool, true, false, List, [], ◌∷◌, ◌++◌, length, take, flat_map, Option, None, Some, if◌then◌else◌}
use Rattle.std.specs.List.{list_all, list_any}
use Rattle.escpos_command.specs.Barcodes.{is_digit}
use Rattle.escpos_paper.specs.CheckDigit.{digit}
use Rattle.escpos_barcode.specs.declared.code128.CodeSet.{CodeSet}
use Rattle.escpos_barcode.specs.declared.code128.CodeSet.TheVariants.{B, C}
use Rattle.escpos_barcode.specs.declared.code128.Character.{Character}
use Rattle.escpos_barcode.specs.declared.code128.Character.TheVariants as character
use Rattle.escpos_barcode.specs.declared.gs1.Part.{Part}
use Rattle.escpos_barcode.specs.declared.gs1.Part.TheVariants.{Data, Function1, Function3, Shown, CheckDigit}
use Rattle.escpos_barcode.specs.Chains.{given, joined}
use Rattle.escpos_barcode.specs.Code128.{is_byte, started}

-- ## The content

-- A byte of its own: a space and parentheses are only shown, and an asterisk stands for a check digit.
abbrev pub plain_part : ℕ → Option Part
plain_part b =
    if b == 0x20 || b == 0x28 || b == 0x29 then Some (Shown b) else if b == 0x2A then Some CheckDigit
    else if nat_lt b 0x80 then Some (Data b) else None

-- What the byte after a brace says: a function character, or a byte that means something else without the brace.
abbrev pub is_special : ℕ → Bool
is_special b = b == 0x28 || b == 0x29 || b == 0x2A || b == 0x7B

abbrev pub escaped_part : ℕ → Option Part
escaped_part b = if is_special b then Some (Data b) else if b == 0x31 then Some Function1 else if b == 0x33 then Some Function3 else None

-- The parts of the bytes, of which the first may follow a brace.
abbrev pub parts_after : Bool → List ℕ → Option (List Part)
parts_after false [] = Some []
parts_after true [] = None
parts_after false (b ∷ bs) = if b == 0x7B then parts_after true bs else given (plain_part b) (λ p. joined (p ∷ []) (parts_after false bs))
parts_after true (b ∷ bs) = given (escaped_part b) (λ p. joined (p ∷ []) (parts_after false bs))

-- ## Check digits

-- The digits since the last application identifier, which ends with a parenthesis, and one more part. `None`: there is no identifier
-- before, or something else than digits since.
abbrev pub field_after : Option (List ℕ) → Part → Option (List ℕ)
field_after field (Shown b) = if b == 0x29 then Some [] else field
field_after None (Data b) = None
field_after (Some digits) (Data b) = if is_digit b then Some (digits ++ b ∷ []) else None
field_after field Function1 = None
field_after field Function3 = None
field_after field CheckDigit = None

abbrev pub fields_after : Option (List ℕ) → List Part → Option (List ℕ)
fields_after field [] = field
fields_after field (p ∷ ps) = fields_after (field_after field p) ps

-- A check digit as data: that of the digits since the identifier. Any other part is itself.
abbrev pub checked_part : List Part → Part → Option Part
checked_part before CheckDigit = given (fields_after None before) (λ digits. Some (Data (0x30 + digit digits)))
checked_part before part = Some part

-- These parts, and those that follow them with their check digits.
abbrev pub checked_after : List Part → List Part → Option (List Part)
checked_after before [] = Some before
checked_after before (p ∷ ps) = given (checked_part before p) (λ q. checked_after (before ++ q ∷ []) ps)

-- `None`: the content can't be spelled.
abbrev pub gs1_parts : List ℕ → Option (List Part)
gs1_parts content = given (parts_after false content) (checked_after [])

-- ## Data

abbrev pub said_by : Part → List Character
said_by (Data b) = character.Byte b ∷ []
said_by Function1 = character.Function1 ∷ []
said_by Function3 = character.Function3 ∷ []
said_by (Shown b) = []
said_by CheckDigit = []

-- What the bars say: the data and the function characters.
abbrev pub said : List Part → List Character
said parts = flat_map said_by parts

abbrev pub parts_have_data : Option (List Part) → Bool
parts_have_data None = false
parts_have_data (Some parts) = list_any is_byte (said parts)

-- A content that can be spelled, and has data.
abbrev pub has_data : List ℕ → Bool
has_data content = parts_have_data (gs1_parts content)

-- The bytes that say it: those that mean something else of their own follow a brace.
abbrev pub spelled_part : Character → List ℕ
spelled_part (character.Byte b) = if is_special b then 0x7B ∷ b ∷ [] else b ∷ []
spelled_part character.Function1 = 0x7B ∷ 0x31 ∷ []
spelled_part character.Function3 = 0x7B ∷ 0x33 ∷ []
spelled_part _ = []

-- ## Code sets

abbrev pub is_digit_character : Character → Bool
is_digit_character (character.Byte b) = is_digit b
is_digit_character c = false

-- The first characters, so many, are digits.
abbrev pub begins_with_digits : ℕ → List Character → Bool
begins_with_digits n cs = nat_le n (length cs) && list_all is_digit_character (take n cs)

-- Two digits stand in set C; outside of it four are awaited, before it is chosen.
abbrev pub awaited : CodeSet → ℕ
awaited C = 2
awaited set = 4

-- The number of a digit, and the character of set C for two digits.
abbrev pub number : Character → ℕ
number (character.Byte b) = (b - 0x30) % 10
number c = 0

abbrev pub pair : Character → Character → Character
pair first second = character.Byte (10 * number first + number second)

abbrev pub to_pairs : CodeSet → List Character
to_pairs C = []
to_pairs set = character.Code C ∷ []

-- In set B; a control character is one of set A.
abbrev pub in_set_b : Character → List Character
in_set_b (character.Byte b) = if nat_lt b 0x20 then character.Shift ∷ character.Byte b ∷ [] else character.Byte b ∷ []
in_set_b c = c ∷ []

-- A character that isn't of a pair: FNC1 stands in set C as well, and any other in set B.
abbrev pub single : CodeSet → Character → List Character
single C character.Function1 = character.Function1 ∷ []
single C c = character.Code B ∷ in_set_b c
single set c = in_set_b c

abbrev pub after_single : CodeSet → Character → CodeSet
after_single C character.Function1 = C
after_single C c = B
after_single set c = set

-- The characters with their code sets, after a set was chosen and, if there is one, the first digit of a pair.
abbrev pub with_sets : CodeSet → Option Character → List Character → List Character
with_sets set first [] = []
with_sets set (Some first) (c ∷ cs) = pair first c ∷ with_sets set None cs
with_sets set None (c ∷ cs) =
    if begins_with_digits (awaited set) (c ∷ cs) then to_pairs set ++ with_sets C (Some c) cs
    else single set c ++ with_sets (after_single set c) None cs

abbrev pub first_set : List Character → CodeSet
first_set cs = if begins_with_digits 4 cs then C else B

-- FNC1 after the start tells GS1-128 from CODE128.
abbrev pub gs1_characters : List Character → List Character
gs1_characters cs = character.Code (first_set cs) ∷ character.Function1 ∷ with_sets (first_set cs) None cs

abbrev pub gs1_values : List ℕ → Option (List ℕ)
gs1_values content = given (gs1_parts content) (λ parts. started (gs1_characters (said parts)))
