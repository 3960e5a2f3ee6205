-- The whole help: between two texts a line for each row of the table of settings.
use Rattle.std.specs.Prelude.{ℕ, ◌+◌, ◌-◌, ◌==◌, ◌/◌, ◌%◌, Bool, true, false, List, [], ◌∷◌, ◌++◌, Option, None, Some, codes, nat_lt, if◌then◌else◌}
use Rattle.std.specs.List.{flat_map}
use Rattle.escpos_command.specs.Reference.{name_of}
use Rattle.escpos_command.specs.SettingTable.{table}
use Rattle.escpos_command.specs.declared.bytes.TheConstants.{ESC, FS, GS}
use Rattle.escpos_command.specs.declared.setting.Row.{Row}
use Rattle.escpos_help.specs.declared.texts.TheConstants.{HELP_END, HELP_START}

-- A digit.
abbrev pub digit : ℕ → ℕ
digit n = if nat_lt n 10 then 0x30 + n else 0x41 + (n - 10)

-- The digits of a byte.

abbrev pub digits : ℕ → List ℕ
digits b = digit (b / 16) ∷ digit (b % 16) ∷ []

-- The digits of a third byte, or as many spaces.
abbrev pub third_digits : Option ℕ → List ℕ
third_digits None = codes "   "
third_digits (Some b) = 0x20 ∷ digits b

-- Letters of a first byte, a second and a third: eight. A space is written SP.
abbrev pub second_letters : ℕ → Option ℕ → List ℕ
second_letters second None = if second == 0x20 then codes "SP  " else second ∷ codes "   "
second_letters second (Some third) = second ∷ 0x20 ∷ third ∷ codes " "

abbrev pub letters_of : Bool → Bool → Bool → List ℕ → List ℕ
letters_of true is_fs is_gs others = codes "ESC " ++ others
letters_of false true is_gs others = codes "FS " ++ others ++ codes " "
letters_of false false true others = codes "GS " ++ others ++ codes " "
letters_of false false false others = codes "?  " ++ others ++ codes " "

abbrev pub letters : Row → List ℕ
letters r = letters_of (r.first == ESC) (r.first == FS) (r.first == GS) (second_letters r.second r.third)

-- The line of a row: the bytes of its prefix, their letters, and its name in a listing.
unfoldable pub setting_line : Row → List ℕ
setting_line r = codes "          " ++ digits r.first ++ codes " " ++ digits r.second ++ third_digits r.third ++ codes "  " ++ letters r ++ codes "taken: " ++ name_of r.kind ++ codes "\n"

-- The lines of all rows.
abbrev pub setting_lines : List ℕ
setting_lines = flat_map setting_line table

abbrev pub help_text : List ℕ
help_text = HELP_START.now ++ setting_lines ++ HELP_END.now
