-- Printed bytes as characters of the document.
use Rattle.std.specs.Prelude.{ℕ, ◌==◌, ◌&&◌, ◌||◌, Bool, not, nat_lt, List, [], ◌∷◌, codes, encode_utf8, if◌then◌else◌}
use Rattle.std.specs.Option.{unwrap_or}
use Rattle.escpos_text.specs.Reading.{reads}

-- What stands for a byte that is no character.
abbrev pub replacement : ℕ
replacement = 0xFFFD

-- The character of a byte, printed with a character set and a code table.
abbrev pub character : ℕ → ℕ → ℕ → ℕ
character set table b = unwrap_or (reads set table b) replacement

-- The characters that mean something in a document: & < > " '
abbrev pub is_markup : ℕ → Bool
is_markup b = b == 0x26 || b == 0x3C || b == 0x3E || b == 0x22 || b == 0x27

-- A character below 80 as it stands in a text: each that means something as its entity.
abbrev pub escaped : ℕ → List ℕ
escaped b =
    if b == 0x26 then codes "&amp;" else if b == 0x3C then codes "&lt;" else if b == 0x3E then codes "&gt;"
    else if b == 0x22 then codes "&quot;" else if b == 0x27 then codes "&apos;" else b ∷ []

abbrev pub character_text : ℕ → List ℕ
character_text c = if nat_lt c 0x80 then escaped c else encode_utf8 c

-- A byte printed with a character set and a code table, as it stands in a text.
abbrev pub byte_text : ℕ → ℕ → ℕ → List ℕ
byte_text set table b = character_text (character set table b)

-- A byte that stands in a text as it is, with character set 0 and any code table. Only private clauses and proofs use this definition.
abbrev pub stands_as_it_is : ℕ → Bool
stands_as_it_is b = not (nat_lt b 0x20) && nat_lt b 0x7F && not (is_markup b)
