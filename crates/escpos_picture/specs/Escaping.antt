-- Text in which nothing means something to a reader of the document but entities, and what such a reader takes it for.
use Rattle.std.specs.Prelude.{ℕ, ◌&&◌, not, Bool, nat_le, IsTrue, List, [], ◌∷◌, ◌++◌, codes, flat_map}
use Rattle.std.specs.Char.{encode_utf8}
use Rattle.std.specs.List.{Contains}
use Rattle.escpos_picture.specs.Characters.{character, is_markup}

-- The characters that mean something in a document, each with its entity.
abbrev pub entities : List (ℕ × List ℕ)
entities =
    (0x26, codes "&amp;") ∷ (0x3C, codes "&lt;") ∷ (0x3E, codes "&gt;") ∷ (0x22, codes "&quot;") ∷ (0x27, codes "&apos;") ∷ []

-- A byte that a text may have as it is: not 0 to 1F, of which a document allows few, and none of & < > " '
abbrev pub is_plain : ℕ → Bool
is_plain b = nat_le 0x20 b && not (is_markup b)

-- These bytes, escaped, are the text: a reader takes each entity for its character, and any other byte for itself.
pub data IsEscaped : List ℕ → List ℕ → Type 0 where
  nothing : IsEscaped [] []
  byte : (b : ℕ) (bytes text : List ℕ) → IsTrue (is_plain b) → IsEscaped bytes text → IsEscaped (b ∷ bytes) (b ∷ text)
  entity : (b : ℕ) (e bytes text : List ℕ) → Contains entities (b, e) → IsEscaped bytes text → IsEscaped (b ∷ bytes) (e ++ text)

-- The characters of printed bytes in UTF-8.
abbrev pub utf8_of : ℕ → ℕ → List ℕ → List ℕ
utf8_of set table bytes = flat_map (λ b. encode_utf8 (character set table b)) bytes
