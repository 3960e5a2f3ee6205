-- The line that says why a text gives no receipt.
use Rattle.std.specs.Prelude.{ℕ, ◌+◌, ◌/◌, ◌%◌, nat_lt, List, [], ◌∷◌, ◌++◌, Option, None, Some, codes, decimal, if◌then◌else◌}
use Rattle.escpos_command.specs.declared.bytes.TheConstants.{LF}
use Rattle.escpos_receipt.specs.declared.json.JsonFault.{JsonFault}
use Rattle.escpos_receipt.specs.Refusals.{json_character, json_name, json_number, json_place}
use Rattle.escpos_job_parts.specs.declared.lines.TheConstants.{SPACE}

-- A space and the place, if there is one.
abbrev pub place_text : Option ℕ → List ℕ
place_text None = []
place_text (Some at) = SPACE ∷ decimal at

-- A hexadecimal digit, in upper case.
abbrev pub digit : ℕ → ℕ
digit n = if nat_lt n 10 then 0x30 + n else 0x37 + n

-- The digits of a character's number that four digits leave out.
unfoldable pub high_digits : ℕ → List ℕ
high_digits c =
    if nat_lt c 0x10000 then []
    else (if nat_lt c 0x100000 then [] else digit (c / 0x100000) ∷ []) ++ digit (c / 0x10000 % 16) ∷ []

-- The number of a character as Unicode writes it: at least four hexadecimal digits.
abbrev pub code_point : ℕ → List ℕ
code_point c = high_digits c ++ digit (c / 0x1000 % 16) ∷ digit (c / 0x100 % 16) ∷ digit (c / 0x10 % 16) ∷ digit (c % 16) ∷ []

-- A space and the character, if there is one.
unfoldable pub character_text : Option ℕ → List ℕ
character_text None = []
character_text (Some c) = codes " U+" ++ code_point c

-- The place of the entry or the command, if there is one, and the character that can't be printed, if that is why.
unfoldable pub where_text : JsonFault → List ℕ
where_text fault = place_text (json_place fault) ++ character_text (json_character fault)

-- The refusal's number, its name, and where it came.
abbrev pub refusal_line : JsonFault → List ℕ
refusal_line fault = codes "refused " ++ decimal (json_number fault) ++ SPACE ∷ [] ++ json_name fault ++ where_text fault ++ LF ∷ []
