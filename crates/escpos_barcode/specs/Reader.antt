-- The reader: it reads black and white runs back into a content as a scanner does. It shares with the drawing the
-- standards' tables and, of CODE93 and CODE128, the values of the check characters and which code set follows a character. It isn't told
-- the module width.
use Rattle.std.specs.Prelude.{ℕ, ◌+◌, ◌-◌, ◌*◌, ◌/◌, ◌%◌, ◌==◌, ◌&&◌, nat_lt, not, Bool, true, false, zero, suc, List, [], ◌∷◌, ◌++◌, length, map, flat_map, take, drop, replicate, slice_index, Option, None, Some, if◌then◌else◌}
use Rattle.std.specs.List.{list_all}
use Rattle.escpos_command.specs.Barcodes.{is_content}
use Rattle.escpos_command.specs.declared.bars.Symbology.{Symbology}
use Rattle.escpos_command.specs.declared.bars.Symbology.TheVariants.{UpcA, UpcE, Ean13, Ean8, Code39, Itf, Codabar, Code93, Code128, Gs1Code128}
use Rattle.escpos_barcode.specs.declared.code128.CodeSet.{CodeSet}
use Rattle.escpos_barcode.specs.declared.code128.CodeSet.TheVariants.{A, B, C}
use Rattle.escpos_barcode.specs.declared.code128.Character.{Character}
use Rattle.escpos_barcode.specs.declared.code128.Character.TheVariants.{Byte, Function1, Function2, Function3, Function4, Shift, Code}
use Rattle.escpos_barcode.specs.Chains.{given, joined}
use Rattle.escpos_barcode.specs.Code93.{ascii_from, check_character}
use Rattle.escpos_barcode.specs.Code128.{is_byte, is_shift, set_after, shifted, check_value}
use Rattle.escpos_barcode.specs.Gs1.{spelled_part}
use Rattle.escpos_barcode.specs.Tables.{same, symbol_of, right_digits, left_digits, parities, upce_parities, code39_table, itf_digits, codabar_table, code93_table, code128_table}

-- ## From dots to modules

-- The widths in modules, if each is a whole number of them.
abbrev pub in_modules : ℕ → List ℕ → Option (List ℕ)
in_modules module_width [] = Some []
in_modules module_width (w ∷ ws) = if w % module_width == 0 then joined ((w / module_width) ∷ []) (in_modules module_width ws) else None

abbrev pub whole_modules : ℕ → List ℕ → Option (List ℕ)
whole_modules module_width ws = if nat_lt 0 module_width then in_modules module_width ws else None

-- The first bar is narrow. A run is wide, and 2, if it is more than one and a half times as wide as that.
abbrev pub narrow_or_wide : ℕ → ℕ → ℕ
narrow_or_wide narrow w = if nat_lt (3 * narrow) (2 * w) then 2 else 1

-- The first bar is one module wide, and in CODE128 and GS1-128 two.
abbrev pub units : Symbology → List ℕ → Option (List ℕ)
units UpcA ws = whole_modules (slice_index ws 0) ws
units UpcE ws = whole_modules (slice_index ws 0) ws
units Ean13 ws = whole_modules (slice_index ws 0) ws
units Ean8 ws = whole_modules (slice_index ws 0) ws
units Code93 ws = whole_modules (slice_index ws 0) ws
units Code128 ws = whole_modules (slice_index ws 0 / 2) ws
units Gs1Code128 ws = whole_modules (slice_index ws 0 / 2) ws
units Code39 ws = Some (map (narrow_or_wide (slice_index ws 0)) ws)
units Itf ws = Some (map (narrow_or_wide (slice_index ws 0)) ws)
units Codabar ws = Some (map (narrow_or_wide (slice_index ws 0)) ws)

-- ## Parts

-- What follows the first elements, which must be these.
abbrev pub after : List ℕ → List ℕ → Option (List ℕ)
after [] es = Some es
after (p ∷ ps) [] = None
after (p ∷ ps) (e ∷ es) = if p == e then after ps es else None

-- The first rows, of n elements each.
abbrev pub first_rows : ℕ → ℕ → List ℕ → List (List ℕ)
first_rows zero n es = []
first_rows (suc rows) n es = take n es ∷ first_rows rows n (drop n es)

-- The rows of n elements each that end with the last elements, which must be these.
abbrev pub rows_before : List ℕ → ℕ → List ℕ → Option (List (List ℕ))
rows_before last n es = if same (drop (n * (length es / n)) es) last then Some (first_rows (length es / n) n es) else None

-- The symbols of patterns, each of which must be in the table.
abbrev pub symbols : List (ℕ × List ℕ) → List (List ℕ) → Option (List ℕ)
symbols table [] = Some []
symbols table (r ∷ rs) = given (symbol_of table r) (λ s. joined (s ∷ []) (symbols table rs))

-- A list without its last element, and that element.
abbrev pub last_off : List ℕ → Option (List ℕ × ℕ)
last_off [] = None
last_off (x ∷ []) = Some ([], x)
last_off (x ∷ y ∷ ys) = given (last_off (y ∷ ys)) (λ r. Some (x ∷ r.0, r.1))

-- ## UPC-A, EAN-13 and EAN-8

-- The symbols of the left half, each of which shows a number set too, and the digits of the right half.
abbrev pub read_halves : ℕ → List ℕ → Option (List ℕ × List ℕ)
read_halves half es =
    given (after (1 ∷ 1 ∷ 1 ∷ []) es) (λ left.
    given (symbols left_digits (first_rows half 4 left)) (λ in_sets.
    given (after (1 ∷ 1 ∷ 1 ∷ 1 ∷ 1 ∷ []) (drop (4 * half) left)) (λ right.
    given (rows_before (1 ∷ 1 ∷ 1 ∷ []) 4 right) (λ rows.
    if length rows == half then given (symbols right_digits rows) (λ digits. Some (in_sets, digits)) else None))))

abbrev pub set_of : ℕ → ℕ
set_of symbol = symbol / 10

abbrev pub digit_of : ℕ → ℕ
digit_of symbol = 0x30 + symbol % 10

-- All digits of the left half are in number set A.
abbrev pub read_upc : ℕ → List ℕ → Option (List ℕ)
read_upc half es =
    given (read_halves half es) (λ r.
    if same (map set_of r.0) (replicate half 0) then Some (map digit_of r.0 ++ r.1) else None)

-- The number sets of the left half tell the first digit.
abbrev pub read_ean13 : List ℕ → Option (List ℕ)
read_ean13 es =
    given (read_halves 6 es) (λ r.
    given (symbol_of parities (map set_of r.0)) (λ first. Some (first ∷ map digit_of r.0 ++ r.1)))

-- UPC-E: the number sets of the six digits tell the check digit. The number system is 0.
abbrev pub read_upce : List ℕ → Option (List ℕ)
read_upce es =
    given (after (1 ∷ 1 ∷ 1 ∷ []) es) (λ digits.
    given (symbols left_digits (first_rows 6 4 digits)) (λ in_sets.
    if same (drop 24 digits) (1 ∷ 1 ∷ 1 ∷ 1 ∷ 1 ∷ 1 ∷ [])
    then given (symbol_of upce_parities (map set_of in_sets)) (λ check. Some (0x30 ∷ map digit_of in_sets ++ check ∷ [])) else None))

-- ## CODE39 and CODABAR

-- A pattern that follows a narrow space
abbrev pub without_space : List ℕ → List ℕ
without_space [] = []
without_space (e ∷ es) = if e == 1 then es else []

-- Characters of n elements, with a narrow space between them: before the first one, one is put.
abbrev pub read_spaced : List (ℕ × List ℕ) → ℕ → List ℕ → Option (List ℕ)
read_spaced table n es = given (rows_before [] (n + 1) (1 ∷ es)) (λ rows. symbols table (map without_space rows))

-- An asterisk starts and stops, and there is none between.
abbrev pub read_code39 : List ℕ → Option (List ℕ)
read_code39 es =
    given (read_spaced code39_table 9 es) (λ all.
    given (after (0x2A ∷ []) all) (λ more.
    given (last_off more) (λ r. if r.1 == 0x2A && list_all (λ b. not (b == 0x2A)) r.0 then Some r.0 else None)))

abbrev pub read_codabar : List ℕ → Option (List ℕ)
read_codabar es = given (read_spaced codabar_table 7 es) (λ all. if is_content Codabar all then Some all else None)

-- ## ITF

-- The first element, the third, and so on
abbrev pub bars : List ℕ → List ℕ
bars [] = []
bars (b ∷ []) = b ∷ []
bars (b ∷ s ∷ es) = b ∷ bars es

abbrev pub spaces : List ℕ → List ℕ
spaces [] = []
spaces (b ∷ es) = bars es

-- Two digits in ten elements: one in the bars, and one in the spaces
abbrev pub read_pairs : List (List ℕ) → Option (List ℕ)
read_pairs [] = Some []
read_pairs (r ∷ rs) =
    given (symbol_of itf_digits (bars r)) (λ a. given (symbol_of itf_digits (spaces r)) (λ b. joined (a ∷ b ∷ []) (read_pairs rs)))

abbrev pub read_itf : List ℕ → Option (List ℕ)
read_itf es = given (after (1 ∷ 1 ∷ 1 ∷ 1 ∷ []) es) (λ more. given (rows_before (2 ∷ 1 ∷ 1 ∷ []) 10 more) read_pairs)

-- ## CODE93

-- The bytes from 0 to 127, each with its values.
unfoldable pub ascii : List (ℕ × List ℕ)
ascii = ascii_from 0 (replicate 128 0)

-- The bytes of values, of which the first may follow a shift character, 43 to 46.
abbrev pub read_bytes : Option ℕ → List ℕ → Option (List ℕ)
read_bytes None [] = Some []
read_bytes (Some shift) [] = None
read_bytes None (v ∷ vs) = if nat_lt v 43 then given (symbol_of ascii (v ∷ [])) (λ b. joined (b ∷ []) (read_bytes None vs)) else read_bytes (Some v) vs
read_bytes (Some shift) (v ∷ vs) = given (symbol_of ascii (shift ∷ v ∷ [])) (λ b. joined (b ∷ []) (read_bytes None vs))

-- The values before a check character, which must be the right one.
abbrev pub before_check : ℕ → List ℕ → Option (List ℕ)
before_check most values = given (last_off values) (λ r. if r.1 == check_character most r.0 then Some r.0 else None)

-- The start character, the content, the check characters C and K, the stop character, and a bar of one module.
abbrev pub read_code93 : List ℕ → Option (List ℕ)
read_code93 es =
    given (rows_before (1 ∷ []) 6 es) (λ rows.
    given (symbols code93_table rows) (λ all.
    given (after (47 ∷ []) all) (λ more.
    given (last_off more) (λ stop.
    if stop.1 == 47 then given (before_check 15 stop.0) (λ first. given (before_check 20 first) (read_bytes None)) else None))))

-- ## CODE128 and GS1-128

abbrev pub read_start : ℕ → Option CodeSet
read_start v = if v == 103 then Some A else if v == 104 then Some B else if v == 105 then Some C else None

-- The function characters, SHIFT and changes of the code set, from 96 on in sets A and B and from 100 on in set C
abbrev pub read_control : CodeSet → ℕ → Option Character
read_control A v =
    if v == 96 then Some Function3 else if v == 97 then Some Function2 else if v == 98 then Some Shift
    else if v == 99 then Some (Code C) else if v == 100 then Some (Code B) else if v == 101 then Some Function4
    else if v == 102 then Some Function1 else None
read_control B v =
    if v == 96 then Some Function3 else if v == 97 then Some Function2 else if v == 98 then Some Shift
    else if v == 99 then Some (Code C) else if v == 100 then Some Function4 else if v == 101 then Some (Code A)
    else if v == 102 then Some Function1 else None
read_control C v =
    if v == 100 then Some (Code B) else if v == 101 then Some (Code A) else if v == 102 then Some Function1 else None

-- The character of a value in a code set
abbrev pub read_value : CodeSet → ℕ → Option Character
read_value A v = if nat_lt v 64 then Some (Byte (v + 32)) else if nat_lt v 96 then Some (Byte (v - 64)) else read_control A v
read_value B v = if nat_lt v 96 then Some (Byte (v + 32)) else read_control B v
read_value C v = if nat_lt v 100 then Some (Byte v) else read_control C v

-- The characters of values in a code set, of which the first may follow a SHIFT
abbrev pub read_values : CodeSet → Bool → List ℕ → Option (List Character)
read_values set false [] = Some []
read_values set true [] = None
read_values set false (v ∷ vs) = given (read_value set v) (λ c. joined (c ∷ []) (read_values (set_after set c) (is_shift c) vs))
read_values set true (v ∷ vs) =
    given (read_value (shifted set) v) (λ c. if is_byte c then joined (c ∷ []) (read_values set false vs) else None)

-- The bytes of content that say a character
abbrev pub spelled : Character → List ℕ
spelled (Byte b) = if b == 0x7B then 0x7B ∷ 0x7B ∷ [] else b ∷ []
spelled Function1 = 0x7B ∷ 0x31 ∷ []
spelled Function2 = 0x7B ∷ 0x32 ∷ []
spelled Function3 = 0x7B ∷ 0x33 ∷ []
spelled Function4 = 0x7B ∷ 0x34 ∷ []
spelled Shift = 0x7B ∷ 0x53 ∷ []
spelled (Code A) = 0x7B ∷ 0x41 ∷ []
spelled (Code B) = 0x7B ∷ 0x42 ∷ []
spelled (Code C) = 0x7B ∷ 0x43 ∷ []

-- The content of CODE128
abbrev pub all_spelled : List Character → Option (List ℕ)
all_spelled cs = Some (flat_map spelled cs)

-- The data of characters in a code set, in which the code sets and SHIFT no longer show: set C has two digits.
abbrev pub data_in : CodeSet → List Character → List Character
data_in set [] = []
data_in set (Code next ∷ cs) = data_in next cs
data_in set (Shift ∷ cs) = data_in set cs
data_in C (Byte v ∷ cs) = Byte (0x30 + v / 10) ∷ Byte (0x30 + v % 10) ∷ data_in C cs
data_in set (c ∷ cs) = c ∷ data_in set cs

-- The content of GS1-128, whose first character after the start is FNC1
abbrev pub data_spelled : List Character → Option (List ℕ)
data_spelled (Code set ∷ Function1 ∷ cs) = Some (flat_map spelled_part (data_in set cs))
data_spelled cs = None

-- The content of the values before the check character
abbrev pub read_content : (List Character → Option (List ℕ)) → List ℕ → Option (List ℕ)
read_content say [] = None
read_content say (start ∷ vs) = given (read_start start) (λ set. given (read_values set false vs) (λ cs. say (Code set ∷ cs)))

-- The stop character comes last, and the right check character before it.
abbrev pub read_checked : (List Character → Option (List ℕ)) → List ℕ → Option (List ℕ)
read_checked say all =
    given (last_off all) (λ stop. if stop.1 == 106
    then given (last_off stop.0) (λ check. if check.1 == check_value check.0 then read_content say check.0 else None) else None)

abbrev pub read_128 : (List Character → Option (List ℕ)) → List ℕ → Option (List ℕ)
read_128 say es = given (rows_before (2 ∷ []) 6 es) (λ rows. given (symbols code128_table rows) (read_checked say))

-- ## All

abbrev pub read_elements : Symbology → List ℕ → Option (List ℕ)
read_elements UpcA es = read_upc 6 es
read_elements UpcE es = read_upce es
read_elements Ean13 es = read_ean13 es
read_elements Ean8 es = read_upc 4 es
read_elements Code39 es = read_code39 es
read_elements Itf es = read_itf es
read_elements Codabar es = read_codabar es
read_elements Code93 es = read_code93 es
read_elements Code128 es = read_128 all_spelled es
read_elements Gs1Code128 es = read_128 data_spelled es

-- The content that the runs show, widths in dots from left to right, bar first; `None`: they show none.
abbrev pub read : Symbology → List ℕ → Option (List ℕ)
read symbology ws = given (units symbology ws) (read_elements symbology)
