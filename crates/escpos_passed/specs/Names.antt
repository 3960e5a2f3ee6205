-- What a listing calls a command that is passed over: the Reference's name, of the bytes that it begins with.
use Rattle.std.specs.Prelude.{ℕ, ◌==◌, List, [], ◌∷◌, ◌++◌, codes, if◌then◌else◌}
use Rattle.escpos_passed.specs.declared.table.Prefix.{Prefix}
use Rattle.escpos_passed.specs.declared.table.Prefix.TheVariants as prefix

-- A control code by its name, and any other byte as the character that it is.
abbrev pub byte_name : ℕ → List ℕ
byte_name b =
    if b == 0x04 then codes "EOT"
    else if b == 0x05 then codes "ENQ"
    else if b == 0x09 then codes "HT"
    else if b == 0x0C then codes "FF"
    else if b == 0x10 then codes "DLE"
    else if b == 0x14 then codes "DC4"
    else if b == 0x18 then codes "CAN"
    else if b == 0x1B then codes "ESC"
    else if b == 0x1C then codes "FS"
    else if b == 0x1D then codes "GS"
    else b ∷ []

abbrev pub name_of : Prefix → List ℕ
name_of (prefix.One a) = byte_name a
name_of (prefix.Two a b) = byte_name a ++ codes " " ++ byte_name b
name_of (prefix.Three a b c) = byte_name a ++ codes " " ++ byte_name b ++ codes " " ++ byte_name c
name_of (prefix.With a b n) = byte_name a ++ codes " " ++ byte_name b

-- How many bytes the name stands for.
abbrev pub named : Prefix → ℕ
named (prefix.One a) = 1
named (prefix.Two a b) = 2
named (prefix.Three a b c) = 3
named (prefix.With a b n) = 2
