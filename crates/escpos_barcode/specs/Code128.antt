-- CODE128: the characters that a content says, and their values. (ISO/IEC 15417.)
use Rattle.std.specs.Prelude.{ℕ, ◌+◌, ◌-◌, ◌*◌, ◌%◌, ◌==◌, ◌&&◌, nat_le, nat_lt, Bool, true, false, List, [], ◌∷◌, Option, None, Some, if◌then◌else◌}
use Rattle.std.specs.List.{list_any}
use Rattle.escpos_barcode.specs.declared.code128.CodeSet.{CodeSet}
use Rattle.escpos_barcode.specs.declared.code128.CodeSet.TheVariants.{A, B, C}
use Rattle.escpos_barcode.specs.declared.code128.Character.{Character}
use Rattle.escpos_barcode.specs.declared.code128.Character.TheVariants.{Byte, Function1, Function2, Function3, Function4, Shift, Code}
use Rattle.escpos_barcode.specs.Chains.{given, joined}

-- ## The content

-- What the byte after a brace says: a brace, SHIFT, a function character, or a change to code set A, B or C.
abbrev pub escaped : ℕ → Option Character
escaped b =
    if b == 0x7B then Some (Byte 0x7B) else if b == 0x53 then Some Shift else if b == 0x31 then Some Function1
    else if b == 0x32 then Some Function2 else if b == 0x33 then Some Function3 else if b == 0x34 then Some Function4
    else if b == 0x41 then Some (Code A) else if b == 0x42 then Some (Code B) else if b == 0x43 then Some (Code C) else None

-- The characters of the bytes, of which the first may follow a brace.
abbrev pub characters_after : Bool → List ℕ → Option (List Character)
characters_after false [] = Some []
characters_after true [] = None
characters_after false (b ∷ bs) = if b == 0x7B then characters_after true bs else joined (Byte b ∷ []) (characters_after false bs)
characters_after true (b ∷ bs) = given (escaped b) (λ c. joined (c ∷ []) (characters_after false bs))

-- The characters of a content, the first of which should name the code set that it starts in.
abbrev pub characters : List ℕ → Option (List Character)
characters content = characters_after false content

abbrev pub is_byte : Character → Bool
is_byte (Byte b) = true
is_byte c = false

abbrev pub is_shift : Character → Bool
is_shift Shift = true
is_shift c = false

-- The code set in which what follows the character stands.
abbrev pub set_after : CodeSet → Character → CodeSet
set_after set (Code next) = next
set_after set c = set

-- The code set to which SHIFT leads for one character; set C has no SHIFT.
abbrev pub shifted : CodeSet → CodeSet
shifted A = B
shifted B = A
shifted C = C

-- ## Values

abbrev pub byte_value : CodeSet → ℕ → Option ℕ
byte_value A b = if nat_lt b 0x20 then Some (b + 64) else if nat_lt b 0x60 then Some (b - 32) else None
byte_value B b = if nat_le 0x20 b && nat_lt b 0x80 then Some (b - 32) else None
byte_value C b = if nat_lt b 100 then Some b else None

abbrev pub code_value : CodeSet → CodeSet → Option ℕ
code_value A A = None
code_value A B = Some 100
code_value A C = Some 99
code_value B A = Some 101
code_value B B = None
code_value B C = Some 99
code_value C A = Some 101
code_value C B = Some 100
code_value C C = None

-- The value of a character in a code set, if the set has it.
abbrev pub value_in : CodeSet → Character → Option ℕ
value_in set (Byte b) = byte_value set b
value_in set (Code next) = code_value set next
value_in set Function1 = Some 102
value_in A Function2 = Some 97
value_in B Function2 = Some 97
value_in C Function2 = None
value_in A Function3 = Some 96
value_in B Function3 = Some 96
value_in C Function3 = None
value_in A Function4 = Some 101
value_in B Function4 = Some 100
value_in C Function4 = None
value_in A Shift = Some 98
value_in B Shift = Some 98
value_in C Shift = None

-- The value of a character after SHIFT: a byte of the other set.
abbrev pub value_shifted : CodeSet → Character → Option ℕ
value_shifted set c = if is_byte c then value_in (shifted set) c else None

-- The values of characters that stand in a code set, of which the first may follow a SHIFT.
abbrev pub values_after : CodeSet → Bool → List Character → Option (List ℕ)
values_after set false [] = Some []
values_after set true [] = None
values_after set false (c ∷ cs) = given (value_in set c) (λ v. joined (v ∷ []) (values_after (set_after set c) (is_shift c) cs))
values_after set true (c ∷ cs) = given (value_shifted set c) (λ v. joined (v ∷ []) (values_after set false cs))

abbrev pub start_value : CodeSet → ℕ
start_value A = 103
start_value B = 104
start_value C = 105

-- The values from the start character on: the content names its first code set, and has at least one byte of data.
abbrev pub started : List Character → Option (List ℕ)
started (Code set ∷ cs) = if list_any is_byte cs then joined (start_value set ∷ []) (values_after set false cs) else None
started cs = None

abbrev pub code128_values : List ℕ → Option (List ℕ)
code128_values content = given (characters content) started

-- ## The check character

abbrev pub weighted : ℕ → List ℕ → ℕ
weighted weight [] = 0
weighted weight (v ∷ vs) = weight * v + weighted (weight + 1) vs

-- The start character and the first after it weigh 1, the next 2, and so on.
abbrev pub check_value : List ℕ → ℕ
check_value [] = 0
check_value (start ∷ vs) = (start + weighted 1 vs) % 103
