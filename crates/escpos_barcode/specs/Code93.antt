-- CODE93: the symbols of a content by their values, and the check characters. (AIM BC5.)
use Rattle.std.specs.Prelude.{ℕ, ◌+◌, ◌-◌, ◌*◌, ◌/◌, ◌%◌, ◌==◌, ◌&&◌, nat_le, nat_lt, Bool, List, [], ◌∷◌, ◌++◌, length, flat_map, Option, None, Some, if◌then◌else◌}
use Rattle.std.specs.List.{list_all}

-- ## Bytes

-- The value of a character that stands for itself: a digit, an upper-case letter, and - . space $ / + %.
abbrev pub own_value : ℕ → Option ℕ
own_value b =
    if nat_le 0x30 b && nat_le b 0x39 then Some (b - 0x30) else if nat_le 0x41 b && nat_le b 0x5A then Some (b - 0x41 + 10)
    else if b == 0x2D then Some 36 else if b == 0x2E then Some 37 else if b == 0x20 then Some 38 else if b == 0x24 then Some 39
    else if b == 0x2F then Some 40 else if b == 0x2B then Some 41 else if b == 0x25 then Some 42 else None

-- The shift characters ($) 43, (%) 44, (/) 45 and (+) 46: in each column of 32 bytes one of them stands before the letters A to Z,
-- whose values are 10 to 35, for the bytes at the places 1 to 26. The others follow (%).
abbrev pub shift_value : ℕ → ℕ
shift_value column = if column == 0 then 43 else if column == 1 then 45 else 46

-- The letter for the first byte of a column: U, V or W. (That of the second column is a space.)
abbrev pub first_letter : ℕ → ℕ
first_letter column = if column == 0 then 30 else column + 29

-- The two values of the byte at this place of a column: a shift character and a letter.
abbrev pub shifted_values : ℕ → ℕ → List ℕ
shifted_values column place =
    if nat_le 27 place then 44 ∷ (5 * column + place - 17) ∷ [] else if place == 0 then 44 ∷ first_letter column ∷ []
    else shift_value column ∷ (place + 9) ∷ []

abbrev pub values_or : ℕ → Option ℕ → List ℕ
values_or b None = shifted_values (b / 32) (b % 32)
values_or b (Some v) = v ∷ []

-- The values of a byte below 128.
abbrev pub byte_values : ℕ → List ℕ
byte_values b = values_or b (own_value b)

-- The bytes from this one on, so many, each with its values.
abbrev pub ascii_from : ℕ → List ℕ → List (ℕ × List ℕ)
ascii_from b [] = []
ascii_from b (x ∷ xs) = (b, byte_values b) ∷ ascii_from (b + 1) xs

-- ## The check characters

-- A value weighs one more than there are values after it; from `most` on the weights begin at 1 again.
abbrev pub weighted_sum : ℕ → List ℕ → ℕ
weighted_sum most [] = 0
weighted_sum most (v ∷ vs) = (length vs % most + 1) * v + weighted_sum most vs

abbrev pub check_character : ℕ → List ℕ → ℕ
check_character most values = weighted_sum most values % 47

-- The values, and the check characters C and K, of which the second is computed over the first too.
abbrev pub with_first : List ℕ → List ℕ
with_first values = values ++ check_character 20 values ∷ []

abbrev pub with_both : List ℕ → List ℕ
with_both values = with_first values ++ check_character 15 (with_first values) ∷ []

-- ## The content

abbrev pub is_code93_content : List ℕ → Bool
is_code93_content content = nat_le 1 (length content) && list_all (λ b. nat_lt b 0x80) content

abbrev pub code93_values : List ℕ → List ℕ
code93_values content = flat_map byte_values content
