-- The code tables by their numbers. (Reference: ESC t.)
use Rattle.std.specs.Prelude.{ℕ, List, [], ◌∷◌, if◌then◌else◌, ◌==◌}
use Rattle.escpos_text.specs.DosTables.{pc437, pc850, pc860, pc863, pc865, pc858, pc861}
use Rattle.escpos_text.specs.OtherDosTables.{pc857, pc737, pc866, pc852, pc720, wpc775, pc855, pc862, pc864, pc869, pc1125}
use Rattle.escpos_text.specs.IsoTables.{iso8859_7, iso8859_2, iso8859_15}
use Rattle.escpos_text.specs.WindowsTables.{wpc1252, wpc1250, wpc1251, wpc1253, wpc1254, wpc1255, wpc1256, wpc1257, wpc1258, kz1048}
use Rattle.escpos_text.specs.Katakana.{katakana}

-- Each table by its number: the characters of the bytes 80 to FF, and 0 where a place is open.
unfoldable pub code_tables : List (ℕ × List ℕ)
code_tables =
    (0, pc437) ∷ (1, katakana) ∷ (2, pc850) ∷ (3, pc860) ∷ (4, pc863) ∷ (5, pc865) ∷ (13, pc857) ∷ (14, pc737) ∷
    (15, iso8859_7) ∷ (16, wpc1252) ∷ (17, pc866) ∷ (18, pc852) ∷ (19, pc858) ∷ (32, pc720) ∷ (33, wpc775) ∷
    (34, pc855) ∷ (35, pc861) ∷ (36, pc862) ∷ (37, pc864) ∷ (38, pc869) ∷ (39, iso8859_2) ∷ (40, iso8859_15) ∷
    (44, pc1125) ∷ (45, wpc1250) ∷ (46, wpc1251) ∷ (47, wpc1253) ∷ (48, wpc1254) ∷ (49, wpc1255) ∷ (50, wpc1256) ∷
    (51, wpc1257) ∷ (52, wpc1258) ∷ (53, kz1048) ∷ []

-- The table of a number among these; a number that none has is a table with no characters.
abbrev pub table_among : List (ℕ × List ℕ) → ℕ → List ℕ
table_among [] number = []
table_among (table ∷ tables) number = if table.0 == number then table.1 else table_among tables number

-- The characters of the table of a number.
unfoldable pub characters_of : ℕ → List ℕ
characters_of number = table_among code_tables number
