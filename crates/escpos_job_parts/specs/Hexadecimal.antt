-- Bytes written as hexadecimal text.
use Rattle.std.specs.Prelude.{◌≡◌, ◌==◌, ◌||◌, ℕ, Bool, not, List, filter, Ok}
use Rattle.hex.specs.Hex.{decode_of}

-- the byte is a space, a tab, or an end of a line (CR or LF)
abbrev pub is_blank : ℕ → Bool
is_blank b = b == 32 || (b == 9 || (b == 13 || b == 10))

-- the text without its blanks
abbrev pub digits_of : List ℕ → List ℕ
digits_of text = filter (λ b. not (is_blank b)) text

-- the text is the hexadecimal of these bytes, with blanks anywhere
abbrev pub IsHexadecimal : List ℕ → List ℕ → Type 0
IsHexadecimal text bytes = decode_of (digits_of text) ≡ Ok bytes
