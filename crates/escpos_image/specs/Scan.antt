-- Numbers in decimal and the gaps before them.
use Rattle.std.specs.Prelude.{ℕ, ◌+◌, ◌-◌, ◌*◌, ◌==◌, ◌&&◌, ◌||◌, nat_le, min, Bool, true, false, not, List, [], ◌∷◌, length, take, drop, fold, if◌then◌else◌}
use Rattle.std.specs.List.{prefix_len}
use Rattle.escpos_image.specs.declared.scan.TheConstants.{TOO_GREAT}
use Rattle.escpos_image.specs.declared.scan.Number.{Number}

-- LF or CR.
abbrev pub ends_line : ℕ → Bool
ends_line b = b == 0x0A || b == 0x0D

-- A space, a tab, or an end of a line.
abbrev pub is_blank : ℕ → Bool
is_blank b = b == 0x20 || b == 0x09 || ends_line b

abbrev pub is_digit : ℕ → Bool
is_digit b = nat_le 0x30 b && nat_le b 0x39

-- How many bytes of blanks and comments come first, inside a comment or not. A comment goes from # to the end of the line.
abbrev pub gap_length : Bool → List ℕ → ℕ
gap_length in_comment [] = 0
gap_length true (b ∷ bs) = gap_length (not (ends_line b)) bs + 1
gap_length false (b ∷ bs) =
    if b == 0x23 then gap_length true bs + 1 else if is_blank b then gap_length false bs + 1 else 0

-- Where the gap at this place ends.
abbrev pub gap_end : List ℕ → ℕ → ℕ
gap_end bytes at = at + gap_length false (drop at bytes)

-- What digits say in decimal.
abbrev pub decimal_value : List ℕ → ℕ
decimal_value digits = fold (λ n d. 10 * n + (d - 0x30)) 0 digits

-- The digits from this place on.
abbrev pub digits_at : List ℕ → ℕ → List ℕ
digits_at bytes start = take (prefix_len is_digit (drop start bytes)) (drop start bytes)

abbrev pub number : ℕ → List ℕ → Number
number start digits = record { start = start; end = start + length digits; value = min TOO_GREAT (decimal_value digits) }

-- The digits that follow the gap at this place.
abbrev pub number_at : List ℕ → ℕ → Number
number_at bytes at = number (gap_end bytes at) (digits_at bytes (gap_end bytes at))
