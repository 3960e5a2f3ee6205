-- The bars and spaces of a content in modules, bar first.
use Rattle.std.specs.Prelude.{ℕ, ◌+◌, ◌-◌, ◌*◌, ◌%◌, ◌==◌, ◌&&◌, nat_le, nat_lt, nat_eq, Bool, List, [], ◌∷◌, ◌++◌, length, map, flat_map, take, drop, replicate, slice_index, Option, None, Some, if◌then◌else◌}
use Rattle.std.specs.Cmp.Lexicographic.{pointwise}
use Rattle.std.specs.List.{list_all}
use Rattle.escpos_command.specs.Barcodes.{is_digit, is_content}
use Rattle.escpos_command.specs.declared.bars.Symbology.{Symbology}
use Rattle.escpos_command.specs.declared.bars.Symbology.TheVariants.{UpcA, UpcE, Ean13, Ean8, Code39, Itf, Codabar, Code93, Code128, Gs1Code128}
use Rattle.escpos_paper.specs.CheckDigit.{expanded}
use Rattle.escpos_barcode.specs.Chains.{given}
use Rattle.escpos_barcode.specs.Code93.{is_code93_content, code93_values, with_both}
use Rattle.escpos_barcode.specs.Code128.{code128_values, check_value}
use Rattle.escpos_barcode.specs.Gs1.{gs1_values}
use Rattle.escpos_barcode.specs.Tables.{row, has_row, right_digits, left_digits, parities, upce_parities, code39_data, code39_table, itf_digits, codabar_table, code93_table, code128_table}

-- ## UPC-A, EAN-13 and EAN-8

abbrev pub guard : List ℕ
guard = 1 ∷ 1 ∷ 1 ∷ []

abbrev pub centre : List ℕ
centre = 1 ∷ 1 ∷ 1 ∷ 1 ∷ 1 ∷ []

-- A number set: 0 is A, and 1 is B.
abbrev pub is_set : ℕ → Bool
is_set p = nat_lt p 2

-- The symbols of the left half: the digits in the number sets of their places.
abbrev pub in_sets : List ℕ → List ℕ → List ℕ
in_sets [] digits = []
in_sets (p ∷ ps) [] = []
in_sets (p ∷ ps) (d ∷ ds) = (10 * p + (d - 0x30)) ∷ in_sets ps ds

-- The two halves; the left one has as many digits as there are number sets.
abbrev pub halves : List ℕ → List ℕ → List ℕ
halves sets digits =
    guard ++ (flat_map (row left_digits) (in_sets sets (take (length sets) digits))
    ++ (centre ++ (flat_map (row right_digits) (drop (length sets) digits) ++ guard)))

-- This many digits
abbrev pub are_digits : ℕ → List ℕ → Bool
are_digits n bs = length bs == n && list_all is_digit bs

abbrev pub upca : List ℕ → Option (List ℕ)
upca content = if are_digits 12 content then Some (halves (replicate 6 0) content) else None

abbrev pub ean8 : List ℕ → Option (List ℕ)
ean8 content = if are_digits 8 content then Some (halves (replicate 4 0) content) else None

-- The number sets of the left half stand for the first digit.
abbrev pub ean13 : List ℕ → Option (List ℕ)
ean13 [] = None
ean13 (first ∷ digits) = if are_digits 13 (first ∷ digits) then Some (halves (row parities first) digits) else None

-- ## UPC-E

-- The bytes of a list at these places, counted from 0.
abbrev pub picked : List ℕ → List ℕ → List ℕ
picked bs places = map (slice_index bs) places

-- The ways to leave zeros out of eleven digits of UPC-A, for six digits to stand for them.
abbrev pub shorter : List ℕ → List (List ℕ)
shorter digits =
    picked digits (1 ∷ 2 ∷ 8 ∷ 9 ∷ 10 ∷ 3 ∷ [])
    ∷ (picked digits (1 ∷ 2 ∷ 3 ∷ 9 ∷ 10 ∷ []) ++ 0x33 ∷ [])
    ∷ (picked digits (1 ∷ 2 ∷ 3 ∷ 4 ∷ 10 ∷ []) ++ 0x34 ∷ [])
    ∷ picked digits (1 ∷ 2 ∷ 3 ∷ 4 ∷ 5 ∷ 10 ∷ [])
    ∷ []

-- The first of some that stands for the digits.
abbrev pub first_for : List ℕ → List (List ℕ) → Option (List ℕ)
first_for digits [] = None
first_for digits (six ∷ others) = if pointwise nat_eq (expanded six) digits then Some six else first_for digits others

-- `None`: too few of the digits are zeros.
abbrev pub shortened : List ℕ → Option (List ℕ)
shortened digits = first_for digits (shorter digits)

-- The six digits that are drawn, and the check digit: of seven, of eight that begin with the number system 0, and of twelve of UPC-A.
abbrev pub upce_parts : List ℕ → Option (List ℕ × ℕ)
upce_parts content =
    if length content == 7 then Some (picked content (0 ∷ 1 ∷ 2 ∷ 3 ∷ 4 ∷ 5 ∷ []), slice_index content 6)
    else if length content == 8 && slice_index content 0 == 0x30 then Some (picked content (1 ∷ 2 ∷ 3 ∷ 4 ∷ 5 ∷ 6 ∷ []), slice_index content 7)
    else if length content == 12 then given (shortened (take 11 content)) (λ six. Some (six, slice_index content 11)) else None

-- The eight digits, from the number system 0 on, of a content that has these parts.
abbrev pub short_form : List ℕ → Option (List ℕ × ℕ) → List ℕ
short_form content None = content
short_form content (Some p) = 0x30 ∷ p.0 ++ p.1 ∷ []

abbrev pub upce_end : List ℕ
upce_end = 1 ∷ 1 ∷ 1 ∷ 1 ∷ 1 ∷ 1 ∷ []

-- The number sets of the six digits stand for the check digit.
abbrev pub upce_elements : List ℕ → ℕ → List ℕ
upce_elements six check = guard ++ (flat_map (row left_digits) (in_sets (row upce_parities check) six) ++ upce_end)

abbrev pub upce : List ℕ → Option (List ℕ)
upce content = if list_all is_digit content then given (upce_parts content) (λ p. Some (upce_elements p.0 p.1)) else None

-- ## CODE39 and CODABAR

-- Patterns with a narrow space between them
abbrev pub spaced : List (ℕ × List ℕ) → List ℕ → List ℕ
spaced table [] = []
spaced table (s ∷ ss) = row table s ++ flat_map (λ t. 1 ∷ row table t) ss

abbrev pub is_code39_content : List ℕ → Bool
is_code39_content content = nat_le 1 (length content) && list_all (has_row code39_data) content

-- The content is between two asterisks, and has none itself.
abbrev pub code39_elements : List ℕ → List ℕ
code39_elements content = spaced code39_table (0x2A ∷ content ++ 0x2A ∷ [])

abbrev pub code39 : List ℕ → Option (List ℕ)
code39 content = if is_code39_content content then Some (code39_elements content) else None

-- A letter a to d stands for the same pattern as A to D.
abbrev pub upper : ℕ → ℕ
upper b = if nat_le 0x61 b && nat_le b 0x64 then b - 0x20 else b

abbrev pub codabar : List ℕ → Option (List ℕ)
codabar content = if is_content Codabar content then Some (spaced codabar_table (map upper content)) else None

-- ## ITF

-- Bars and spaces in turn
abbrev pub interleaved : List ℕ → List ℕ → List ℕ
interleaved [] spaces = []
interleaved (b ∷ bars) [] = []
interleaved (b ∷ bars) (s ∷ spaces) = b ∷ s ∷ interleaved bars spaces

-- The digits two by two: one in five bars, the next in the spaces after them.
abbrev pub pairs : List ℕ → List ℕ
pairs [] = []
pairs (a ∷ []) = []
pairs (a ∷ b ∷ bs) = interleaved (row itf_digits a) (row itf_digits b) ++ pairs bs

abbrev pub itf_start : List ℕ
itf_start = 1 ∷ 1 ∷ 1 ∷ 1 ∷ []

abbrev pub itf_stop : List ℕ
itf_stop = 2 ∷ 1 ∷ 1 ∷ []

abbrev pub is_itf_content : List ℕ → Bool
is_itf_content content = nat_le 2 (length content) && length content % 2 == 0 && list_all is_digit content

abbrev pub itf : List ℕ → Option (List ℕ)
itf content = if is_itf_content content then Some (itf_start ++ (pairs content ++ itf_stop)) else None

-- ## CODE93

-- The start and stop character is 47, and a bar of one module ends it.
abbrev pub code93_bars : List ℕ → List ℕ
code93_bars values = flat_map (row code93_table) (47 ∷ values ++ 47 ∷ []) ++ 1 ∷ []

abbrev pub code93_elements : List ℕ → List ℕ
code93_elements values = code93_bars (with_both values)

abbrev pub code93 : List ℕ → Option (List ℕ)
code93 content = if is_code93_content content then Some (code93_elements (code93_values content)) else None

-- ## CODE128 and GS1-128

-- The values, the check character and the stop character, whose last bar is two modules wide.
abbrev pub code128_elements : List ℕ → List ℕ
code128_elements values = flat_map (row code128_table) (values ++ check_value values ∷ 106 ∷ []) ++ 2 ∷ []

abbrev pub code128 : List ℕ → Option (List ℕ)
code128 content = given (code128_values content) (λ values. Some (code128_elements values))

abbrev pub gs1_128 : List ℕ → Option (List ℕ)
gs1_128 content = given (gs1_values content) (λ values. Some (code128_elements values))

-- ## All

-- `None`: the symbology has no such content.
abbrev pub elements : Symbology → List ℕ → Option (List ℕ)
elements UpcA content = upca content
elements UpcE content = upce content
elements Ean13 content = ean13 content
elements Ean8 content = ean8 content
elements Code39 content = code39 content
elements Itf content = itf content
elements Codabar content = codabar content
elements Code93 content = code93 content
elements Code128 content = code128 content
elements Gs1Code128 content = gs1_128 content
