-- Mark numbers: the numbers 0 to 1,679,615 as four base-36 digits 0-9, A-Z, most significant first.
use Rattle.std.specs.Prelude.{ℕ, ◌+◌, ◌/◌, ◌%◌, ◌^◌, ◌-◌, nat_lt, List, [], ◌∷◌, if◌then◌else◌}

-- How many mark numbers there are.
abbrev pub mark_count : ℕ
mark_count = 36 ^ 4

-- The character of a base-36 digit: 30 to 39 hexadecimal for 0 to 9, 41 to 5A for 10 to 35.
abbrev pub digit_character : ℕ → ℕ
digit_character d = if nat_lt d 10 then 0x30 + d else 0x41 + (d - 10)

-- The id of mark number n.
abbrev pub mark_of : ℕ → List ℕ
mark_of n =
    digit_character (n / 36 ^ 3) ∷ digit_character (n / 36 ^ 2 % 36) ∷ digit_character (n / 36 % 36)
    ∷ digit_character (n % 36) ∷ []
