-- Which Unicode character a printer prints for a byte, by the international character set and the code table in force.
use Rattle.std.specs.Prelude.{◌≡◌, ◌≢◌, ℕ, ◌-◌, ◌<◌, ◌==◌, ◌&&◌, Bool, false, nat_lt, nat_le, slice_get, slice_index, Option, Some, None, MatchOption, if◌then◌else◌, position}
use Rattle.std.specs.List.{range_with_len}
use Rattle.escpos_text.specs.CharacterSets.{exchanged_bytes, characters_in}
use Rattle.escpos_text.specs.CodeTables.{characters_of}

-- A table has 0 where a place is open.
abbrev pub unless_open : ℕ → Option ℕ
unless_open c = if c == 0 then None else Some c

-- A byte below 80, by its place among the twelve that a set exchanges. The others are ASCII; its control codes and 7F are no
-- characters.
abbrev pub reads_at : Option ℕ → ℕ → ℕ → Option ℕ
reads_at (Some place) set b = slice_get (characters_in set) place
reads_at None set b = if nat_le 0x20 b && nat_le b 0x7E then Some b else None

unfoldable pub reads_low : ℕ → ℕ → Option ℕ
reads_low set b = reads_at (position (λ x. x == b) exchanged_bytes) set b

-- A byte from 80 on.
unfoldable pub reads_high : ℕ → ℕ → Option ℕ
reads_high table b = unless_open (slice_index (characters_of table) (b - 0x80))

-- The character of a byte, where these set and table are in force.
unfoldable pub reads : ℕ → ℕ → ℕ → Option ℕ
reads set table b = if nat_lt b 0x80 then reads_low set b else reads_high table b

-- Whether a character was read, and it is this one.
abbrev pub is_some_of : Option ℕ → ℕ → Bool
is_some_of None c = false
is_some_of (Some d) c = d == c

-- The lowest byte that reads as a character.
unfoldable pub byte_for : ℕ → ℕ → ℕ → Option ℕ
byte_for set table c = position (λ b. is_some_of (reads set table b) c) (range_with_len 0 256)

-- The lowest of the bytes below a bound that reads as a character, or none where no such byte does.
abbrev pub IsLowest : ℕ → (ℕ → Option ℕ) → ℕ → Option ℕ → Type 0
IsLowest bound read c found =
    MatchOption found
    ((b : ℕ) → b < bound → read b ≢ Some c)
    (λ b. (b < bound) × (read b ≡ Some c) × ((k : ℕ) → k < b → read k ≢ Some c))
