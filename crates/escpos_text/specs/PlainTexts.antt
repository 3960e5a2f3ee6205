-- Texts whose bytes print themselves by every code table.
use Rattle.std.specs.Prelude.{ℕ, ◌==◌, ◌&&◌, ◌||◌, Bool, nat_le, if◌then◌else◌, is_none, position}
use Rattle.escpos_text.specs.CharacterSets.{exchanged_bytes}

-- A printed character of ASCII.
abbrev pub is_printed : ℕ → Bool
is_printed b = nat_le 0x20 b && nat_le b 0x7E

-- One that no set exchanges.
abbrev pub is_unexchanged : ℕ → Bool
is_unexchanged b = is_printed b && is_none (position (λ x. x == b) exchanged_bytes)

-- The sets USA and Arabia are ASCII.
abbrev pub is_ascii : ℕ → Bool
is_ascii set = set == 0 || set == 17

unfoldable pub is_plain : ℕ → ℕ → Bool
is_plain set b = if is_ascii set then is_printed b else is_unexchanged b
