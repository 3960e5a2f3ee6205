-- The check digit of UPC-A, UPC-E, EAN-13 and EAN-8. (Reference: GS k.)
use Rattle.std.specs.Prelude.{ℕ, ◌+◌, ◌-◌, ◌*◌, ◌%◌, ◌==◌, ◌||◌, nat_le, Bool, false, List, [], ◌∷◌, length, filter, reverse, Option, None, Some, if◌then◌else◌}
use Rattle.std.specs.List.{list_all}
use Rattle.escpos_command.specs.Barcodes.{is_digit}
use Rattle.escpos_command.specs.declared.bars.Symbology.{Symbology}
use Rattle.escpos_command.specs.declared.bars.Symbology.TheVariants.{UpcA, UpcE, Ean13, Ean8}
use Rattle.escpos_command.specs.Settings.{last_or}

-- All of these bytes are digits.
abbrev pub all_digits : List ℕ → Bool
all_digits bs = list_all is_digit bs

-- The number of a digit.
abbrev pub digit_value : ℕ → ℕ
digit_value b = b - 0x30

-- A sum of digits, with two weights that take turns.
abbrev pub weighted : ℕ → ℕ → List ℕ → ℕ
weighted weight next [] = 0
weighted weight next (b ∷ bs) = weight * digit_value b + weighted next weight bs

-- The weights of the digits are 3, 1, 3, 1, .. from the last leftwards.
abbrev pub weighted_sum : List ℕ → ℕ
weighted_sum digits = weighted 3 1 (reverse digits)

-- With this number the weighted sum of the digits is a multiple of 10.
abbrev pub completes : List ℕ → ℕ → Bool
completes digits n = (n + weighted_sum digits) % 10 == 0

abbrev pub zero_to_nine : List ℕ
zero_to_nine = 0 ∷ 1 ∷ 2 ∷ 3 ∷ 4 ∷ 5 ∷ 6 ∷ 7 ∷ 8 ∷ 9 ∷ []

-- The check digit: the one of the numbers 0 to 9 that completes the digits. The law `one_check_digit` says that there is
-- exactly one.
abbrev pub digit : List ℕ → ℕ
digit digits = last_or 0 (filter (completes digits) zero_to_nine)

-- ## UPC-E

-- The eleven digits of UPC-A for which six digits stand: the number system 0, and the six with zeros among them, of which the last
-- says where they are. (GS1 General Specifications 5.2.)
abbrev pub expanded : List ℕ → List ℕ
expanded (a ∷ b ∷ c ∷ d ∷ e ∷ f ∷ []) =
    if nat_le f 0x32 then 0x30 ∷ a ∷ b ∷ f ∷ 0x30 ∷ 0x30 ∷ 0x30 ∷ 0x30 ∷ c ∷ d ∷ e ∷ []
    else if f == 0x33 then 0x30 ∷ a ∷ b ∷ c ∷ 0x30 ∷ 0x30 ∷ 0x30 ∷ 0x30 ∷ 0x30 ∷ d ∷ e ∷ []
    else if f == 0x34 then 0x30 ∷ a ∷ b ∷ c ∷ d ∷ 0x30 ∷ 0x30 ∷ 0x30 ∷ 0x30 ∷ 0x30 ∷ e ∷ []
    else 0x30 ∷ a ∷ b ∷ c ∷ d ∷ e ∷ 0x30 ∷ 0x30 ∷ 0x30 ∷ 0x30 ∷ f ∷ []
expanded digits = digits

-- The digits of UPC-A that are meant, where the number system stands before the six, or doesn't, or they are all eleven.
abbrev pub upca_digits : List ℕ → List ℕ
upca_digits (n ∷ a ∷ b ∷ c ∷ d ∷ e ∷ f ∷ []) = expanded (a ∷ b ∷ c ∷ d ∷ e ∷ f ∷ [])
upca_digits digits = expanded digits

-- ## Contents

-- The digits of which a check digit is computed, where a content without its check digit is these bytes.
abbrev pub checked_digits : Symbology → List ℕ → List ℕ
checked_digits UpcE content = upca_digits content
checked_digits symbology content = content

-- A content of this many bytes has no check digit, and its symbology has one.
abbrev pub lacks_check_digit : Symbology → ℕ → Bool
lacks_check_digit UpcA n = n == 11
lacks_check_digit UpcE n = n == 6 || n == 7 || n == 11
lacks_check_digit Ean13 n = n == 12
lacks_check_digit Ean8 n = n == 7
lacks_check_digit symbology n = false

-- The check digit that is added to a content on paper, if it lacks one.
abbrev pub added_digit : Symbology → List ℕ → Option ℕ
added_digit symbology content = if lacks_check_digit symbology (length content) then Some (digit (checked_digits symbology content)) else None
