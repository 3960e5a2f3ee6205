-- Worked rows, computed from the definitions alone. The widths come from the published patterns.
use Rattle.std.proofs.Common.{◌≡◌, ℕ, ◌+◌, ◌*◌, List, [], ◌∷◌, ◌++◌, map, refl}
use Rattle.std.specs.Prelude.{◌==◌, ◌&&◌, ◌||◌, ◌%◌, sum, length, true, is_some, None, Some, codes}
use Rattle.std.specs.List.{list_all}
use Rattle.escpos_command.specs.declared.bars.Symbology.TheVariants.{UpcA, UpcE, Ean13, Ean8, Code39, Itf, Codabar, Code93, Code128, Gs1Code128}
use Rattle.escpos_barcode.specs.Code128.{code128_values, check_value}
use Rattle.escpos_barcode.specs.Elements.{elements, shortened}
use Rattle.escpos_barcode.specs.Gs1.{gs1_values}
use Rattle.escpos_barcode.specs.Drawn.{wide, drawn, with_added}
use Rattle.escpos_barcode.specs.Reader.{ascii, bars, read, read_elements}
use Rattle.escpos_barcode.specs.Shown.{shown}
use Rattle.escpos_barcode.specs.Tables.{set_a, set_b, right_digits, left_digits, parity_rows, parities, upce_parity_rows, upce_parities, code39_data, code39_star, itf_rows, itf_digits, codabar_table, code93_rows, code93_table, code128_rows, code128_table, code39_table}

-- UPC-A 03600029145 and its check digit 2
upca : elements UpcA (codes "036000291452") ≡ Some (1 ∷ 1 ∷ 1 ∷ 3 ∷ 2 ∷ 1 ∷ 1 ∷ 1 ∷ 4 ∷ 1 ∷ 1 ∷ 1 ∷ 1 ∷ 1 ∷ 4 ∷ 3 ∷ 2 ∷ 1 ∷ 1 ∷ 3 ∷ 2 ∷ 1 ∷ 1 ∷ 3 ∷ 2 ∷ 1 ∷ 1 ∷ 1 ∷ 1 ∷ 1 ∷ 1 ∷ 1 ∷ 2 ∷ 1 ∷ 2 ∷ 2 ∷ 3 ∷ 1 ∷ 1 ∷ 2 ∷ 2 ∷ 2 ∷ 2 ∷ 1 ∷ 1 ∷ 1 ∷ 3 ∷ 2 ∷ 1 ∷ 2 ∷ 3 ∷ 1 ∷ 2 ∷ 1 ∷ 2 ∷ 2 ∷ 1 ∷ 1 ∷ 1 ∷ [])
unfolding set_a set_b right_digits left_digits parity_rows parities code39_data code39_star itf_rows itf_digits codabar_table code128_rows code128_table
upca = refl

upca_read : read_elements UpcA (1 ∷ 1 ∷ 1 ∷ 3 ∷ 2 ∷ 1 ∷ 1 ∷ 1 ∷ 4 ∷ 1 ∷ 1 ∷ 1 ∷ 1 ∷ 1 ∷ 4 ∷ 3 ∷ 2 ∷ 1 ∷ 1 ∷ 3 ∷ 2 ∷ 1 ∷ 1 ∷ 3 ∷ 2 ∷ 1 ∷ 1 ∷ 1 ∷ 1 ∷ 1 ∷ 1 ∷ 1 ∷ 2 ∷ 1 ∷ 2 ∷ 2 ∷ 3 ∷ 1 ∷ 1 ∷ 2 ∷ 2 ∷ 2 ∷ 2 ∷ 1 ∷ 1 ∷ 1 ∷ 3 ∷ 2 ∷ 1 ∷ 2 ∷ 3 ∷ 1 ∷ 2 ∷ 1 ∷ 2 ∷ 2 ∷ 1 ∷ 1 ∷ 1 ∷ []) ≡ Some (codes "036000291452")
unfolding set_a set_b right_digits left_digits parity_rows parities code39_data code39_star itf_rows itf_digits codabar_table code128_rows code128_table
upca_read = refl

-- UPC-E 123456 and its check digit 5, with the number sets BAABBA
upce : elements UpcE (codes "1234565") ≡ Some (1 ∷ 1 ∷ 1 ∷ 1 ∷ 2 ∷ 2 ∷ 2 ∷ 2 ∷ 1 ∷ 2 ∷ 2 ∷ 1 ∷ 4 ∷ 1 ∷ 1 ∷ 2 ∷ 3 ∷ 1 ∷ 1 ∷ 1 ∷ 3 ∷ 2 ∷ 1 ∷ 1 ∷ 1 ∷ 1 ∷ 4 ∷ 1 ∷ 1 ∷ 1 ∷ 1 ∷ 1 ∷ 1 ∷ [])
unfolding set_a set_b right_digits left_digits parity_rows parities upce_parity_rows upce_parities code93_rows code93_table code128_rows code128_table
upce = refl

upce_read : read_elements UpcE (1 ∷ 1 ∷ 1 ∷ 1 ∷ 2 ∷ 2 ∷ 2 ∷ 2 ∷ 1 ∷ 2 ∷ 2 ∷ 1 ∷ 4 ∷ 1 ∷ 1 ∷ 2 ∷ 3 ∷ 1 ∷ 1 ∷ 1 ∷ 3 ∷ 2 ∷ 1 ∷ 1 ∷ 1 ∷ 1 ∷ 4 ∷ 1 ∷ 1 ∷ 1 ∷ 1 ∷ 1 ∷ 1 ∷ []) ≡ Some (codes "01234565")
unfolding set_a set_b right_digits left_digits parity_rows parities upce_parity_rows upce_parities code93_rows code93_table code128_rows code128_table ascii
upce_read = refl

-- The same with the number system, and the UPC-A for which it stands
upce_whole : elements UpcE (codes "01234565") ≡ elements UpcE (codes "1234565")
unfolding set_a set_b right_digits left_digits parity_rows parities upce_parity_rows upce_parities code93_rows code93_table code128_rows code128_table
upce_whole = refl

upce_long : elements UpcE (codes "012345000065") ≡ elements UpcE (codes "1234565")
unfolding set_a set_b right_digits left_digits parity_rows parities upce_parity_rows upce_parities code93_rows code93_table code128_rows code128_table
upce_long = refl

-- The four ways to leave out zeros, and digits for which no six stand
ways : (shortened (codes "01230000045") ≡ Some (codes "123453")) × (shortened (codes "01260000045") ≡ Some (codes "126453"))
    × (shortened (codes "01264000005") ≡ Some (codes "126454")) × (shortened (codes "01264500005") ≡ Some (codes "126455"))
    × (shortened (codes "01264500004") ≡ None) × (shortened (codes "01100000345") ≡ Some (codes "113450"))
ways = (refl, refl, refl, refl, refl, refl)

-- CODE93 "TEST93", whose check characters are + and 6
code93 : elements Code93 (codes "TEST93") ≡ Some (1 ∷ 1 ∷ 1 ∷ 1 ∷ 4 ∷ 1 ∷ 2 ∷ 1 ∷ 1 ∷ 2 ∷ 2 ∷ 1 ∷ 2 ∷ 2 ∷ 1 ∷ 2 ∷ 1 ∷ 1 ∷ 2 ∷ 1 ∷ 1 ∷ 1 ∷ 2 ∷ 2 ∷ 2 ∷ 1 ∷ 1 ∷ 2 ∷ 2 ∷ 1 ∷ 1 ∷ 4 ∷ 1 ∷ 1 ∷ 1 ∷ 1 ∷ 1 ∷ 1 ∷ 1 ∷ 4 ∷ 1 ∷ 1 ∷ 1 ∷ 1 ∷ 3 ∷ 1 ∷ 2 ∷ 1 ∷ 1 ∷ 2 ∷ 1 ∷ 3 ∷ 1 ∷ 1 ∷ 1 ∷ 1 ∷ 1 ∷ 1 ∷ 4 ∷ 1 ∷ 1 ∷ [])
unfolding set_a set_b right_digits left_digits parity_rows parities upce_parity_rows upce_parities code93_rows code93_table code128_rows code128_table
code93 = refl

code93_read : read_elements Code93 (1 ∷ 1 ∷ 1 ∷ 1 ∷ 4 ∷ 1 ∷ 2 ∷ 1 ∷ 1 ∷ 2 ∷ 2 ∷ 1 ∷ 2 ∷ 2 ∷ 1 ∷ 2 ∷ 1 ∷ 1 ∷ 2 ∷ 1 ∷ 1 ∷ 1 ∷ 2 ∷ 2 ∷ 2 ∷ 1 ∷ 1 ∷ 2 ∷ 2 ∷ 1 ∷ 1 ∷ 4 ∷ 1 ∷ 1 ∷ 1 ∷ 1 ∷ 1 ∷ 1 ∷ 1 ∷ 4 ∷ 1 ∷ 1 ∷ 1 ∷ 1 ∷ 3 ∷ 1 ∷ 2 ∷ 1 ∷ 1 ∷ 2 ∷ 1 ∷ 3 ∷ 1 ∷ 1 ∷ 1 ∷ 1 ∷ 1 ∷ 1 ∷ 4 ∷ 1 ∷ 1 ∷ []) ≡ Some (codes "TEST93")
unfolding set_a set_b right_digits left_digits parity_rows parities upce_parity_rows upce_parities code93_rows code93_table code128_rows code128_table ascii
code93_read = refl

-- The values of each byte, as the standard lists them
ascii_listed : map (λ r. r.1) ascii ≡
    (44 ∷ 30 ∷ []) ∷ (43 ∷ 10 ∷ []) ∷ (43 ∷ 11 ∷ []) ∷ (43 ∷ 12 ∷ []) ∷ (43 ∷ 13 ∷ []) ∷ (43 ∷ 14 ∷ []) ∷ (43 ∷ 15 ∷ []) ∷ (43 ∷ 16 ∷ []) ∷ (43 ∷ 17 ∷ []) ∷ (43 ∷ 18 ∷ []) ∷ (43 ∷ 19 ∷ []) ∷ (43 ∷ 20 ∷ []) ∷ (43 ∷ 21 ∷ []) ∷ (43 ∷ 22 ∷ []) ∷ (43 ∷ 23 ∷ []) ∷ (43 ∷ 24 ∷ []) ∷ (43 ∷ 25 ∷ []) ∷ (43 ∷ 26 ∷ []) ∷ (43 ∷ 27 ∷ []) ∷ (43 ∷ 28 ∷ []) ∷ (43 ∷ 29 ∷ []) ∷ (43 ∷ 30 ∷ []) ∷ (43 ∷ 31 ∷ []) ∷ (43 ∷ 32 ∷ []) ∷ (43 ∷ 33 ∷ []) ∷ (43 ∷ 34 ∷ []) ∷ (43 ∷ 35 ∷ []) ∷ (44 ∷ 10 ∷ []) ∷ (44 ∷ 11 ∷ []) ∷ (44 ∷ 12 ∷ []) ∷ (44 ∷ 13 ∷ []) ∷ (44 ∷ 14 ∷ []) ∷ (38 ∷ []) ∷ (45 ∷ 10 ∷ []) ∷ (45 ∷ 11 ∷ []) ∷ (45 ∷ 12 ∷ []) ∷ (39 ∷ []) ∷ (42 ∷ []) ∷ (45 ∷ 15 ∷ []) ∷ (45 ∷ 16 ∷ []) ∷ (45 ∷ 17 ∷ []) ∷ (45 ∷ 18 ∷ []) ∷ (45 ∷ 19 ∷ []) ∷ (41 ∷ []) ∷ (45 ∷ 21 ∷ []) ∷ (36 ∷ []) ∷ (37 ∷ []) ∷ (40 ∷ []) ∷ (0 ∷ []) ∷ (1 ∷ []) ∷ (2 ∷ []) ∷ (3 ∷ []) ∷ (4 ∷ []) ∷ (5 ∷ []) ∷ (6 ∷ []) ∷ (7 ∷ []) ∷ (8 ∷ []) ∷ (9 ∷ []) ∷ (45 ∷ 35 ∷ []) ∷ (44 ∷ 15 ∷ []) ∷ (44 ∷ 16 ∷ []) ∷ (44 ∷ 17 ∷ []) ∷ (44 ∷ 18 ∷ []) ∷ (44 ∷ 19 ∷ []) ∷ (44 ∷ 31 ∷ []) ∷ (10 ∷ []) ∷ (11 ∷ []) ∷ (12 ∷ []) ∷ (13 ∷ []) ∷ (14 ∷ []) ∷ (15 ∷ []) ∷ (16 ∷ []) ∷ (17 ∷ []) ∷ (18 ∷ []) ∷ (19 ∷ []) ∷ (20 ∷ []) ∷ (21 ∷ []) ∷ (22 ∷ []) ∷ (23 ∷ []) ∷ (24 ∷ []) ∷ (25 ∷ []) ∷ (26 ∷ []) ∷ (27 ∷ []) ∷ (28 ∷ []) ∷ (29 ∷ []) ∷ (30 ∷ []) ∷ (31 ∷ []) ∷ (32 ∷ []) ∷ (33 ∷ []) ∷ (34 ∷ []) ∷ (35 ∷ []) ∷ (44 ∷ 20 ∷ []) ∷ (44 ∷ 21 ∷ []) ∷ (44 ∷ 22 ∷ []) ∷ (44 ∷ 23 ∷ []) ∷ (44 ∷ 24 ∷ []) ∷ (44 ∷ 32 ∷ []) ∷ (46 ∷ 10 ∷ []) ∷ (46 ∷ 11 ∷ []) ∷ (46 ∷ 12 ∷ []) ∷ (46 ∷ 13 ∷ []) ∷ (46 ∷ 14 ∷ []) ∷ (46 ∷ 15 ∷ []) ∷ (46 ∷ 16 ∷ []) ∷ (46 ∷ 17 ∷ []) ∷ (46 ∷ 18 ∷ []) ∷ (46 ∷ 19 ∷ []) ∷ (46 ∷ 20 ∷ []) ∷ (46 ∷ 21 ∷ []) ∷ (46 ∷ 22 ∷ []) ∷ (46 ∷ 23 ∷ []) ∷ (46 ∷ 24 ∷ []) ∷ (46 ∷ 25 ∷ []) ∷ (46 ∷ 26 ∷ []) ∷ (46 ∷ 27 ∷ []) ∷ (46 ∷ 28 ∷ []) ∷ (46 ∷ 29 ∷ []) ∷ (46 ∷ 30 ∷ []) ∷ (46 ∷ 31 ∷ []) ∷ (46 ∷ 32 ∷ []) ∷ (46 ∷ 33 ∷ []) ∷ (46 ∷ 34 ∷ []) ∷ (46 ∷ 35 ∷ []) ∷ (44 ∷ 25 ∷ []) ∷ (44 ∷ 26 ∷ []) ∷ (44 ∷ 27 ∷ []) ∷ (44 ∷ 28 ∷ []) ∷ (44 ∷ 29 ∷ []) ∷ []
unfolding ascii
ascii_listed = refl

-- GS1-128 with an application identifier and a check digit, 3: the digits in set C, and FNC1 before them
gs1 : elements Gs1Code128 (codes "(01)0950110153000*") ≡ Some (2 ∷ 1 ∷ 1 ∷ 2 ∷ 3 ∷ 2 ∷ 4 ∷ 1 ∷ 1 ∷ 1 ∷ 3 ∷ 1 ∷ 2 ∷ 2 ∷ 2 ∷ 1 ∷ 2 ∷ 2 ∷ 2 ∷ 2 ∷ 1 ∷ 2 ∷ 1 ∷ 3 ∷ 2 ∷ 3 ∷ 1 ∷ 1 ∷ 3 ∷ 1 ∷ 2 ∷ 3 ∷ 1 ∷ 2 ∷ 1 ∷ 2 ∷ 2 ∷ 2 ∷ 2 ∷ 1 ∷ 2 ∷ 2 ∷ 2 ∷ 1 ∷ 3 ∷ 1 ∷ 3 ∷ 1 ∷ 2 ∷ 1 ∷ 2 ∷ 2 ∷ 2 ∷ 2 ∷ 1 ∷ 2 ∷ 1 ∷ 2 ∷ 2 ∷ 3 ∷ 1 ∷ 2 ∷ 2 ∷ 1 ∷ 1 ∷ 4 ∷ 2 ∷ 3 ∷ 3 ∷ 1 ∷ 1 ∷ 1 ∷ 2 ∷ [])
unfolding set_a set_b right_digits left_digits parity_rows parities upce_parity_rows upce_parities code93_rows code93_table code128_rows code128_table
gs1 = refl

gs1_read : read_elements Gs1Code128 (2 ∷ 1 ∷ 1 ∷ 2 ∷ 3 ∷ 2 ∷ 4 ∷ 1 ∷ 1 ∷ 1 ∷ 3 ∷ 1 ∷ 2 ∷ 2 ∷ 2 ∷ 1 ∷ 2 ∷ 2 ∷ 2 ∷ 2 ∷ 1 ∷ 2 ∷ 1 ∷ 3 ∷ 2 ∷ 3 ∷ 1 ∷ 1 ∷ 3 ∷ 1 ∷ 2 ∷ 3 ∷ 1 ∷ 2 ∷ 1 ∷ 2 ∷ 2 ∷ 2 ∷ 2 ∷ 1 ∷ 2 ∷ 2 ∷ 2 ∷ 1 ∷ 3 ∷ 1 ∷ 3 ∷ 1 ∷ 2 ∷ 1 ∷ 2 ∷ 2 ∷ 2 ∷ 2 ∷ 1 ∷ 2 ∷ 1 ∷ 2 ∷ 2 ∷ 3 ∷ 1 ∷ 2 ∷ 2 ∷ 1 ∷ 1 ∷ 4 ∷ 2 ∷ 3 ∷ 3 ∷ 1 ∷ 1 ∷ 1 ∷ 2 ∷ []) ≡ Some (codes "0109501101530003")
unfolding set_a set_b right_digits left_digits parity_rows parities upce_parity_rows upce_parities code93_rows code93_table code128_rows code128_table ascii
gs1_read = refl

-- Code sets: two digits and one alone in set B, five with the first alone, a control character after SHIFT
gs1_sets : gs1_values (codes "(10)A1{1(21)12345z" ++ 5 ∷ []) ≡ Some (104 ∷ 102 ∷ 17 ∷ 16 ∷ 33 ∷ 17 ∷ 102 ∷ 99 ∷ 21 ∷ 12 ∷ 34 ∷ 100 ∷ 21 ∷ 90 ∷ 98 ∷ 69 ∷ [])
gs1_sets = refl

-- Characters that mean something else of their own, and FNC3
gs1_escapes : gs1_values (codes "{({){*{{{3") ≡ Some (104 ∷ 102 ∷ 8 ∷ 9 ∷ 10 ∷ 91 ∷ 96 ∷ [])
gs1_escapes = refl

-- No brace that means nothing, no check digit without an identifier or of other characters, and no data at all
gs1_none : (gs1_values (codes "12{2") ≡ None) × (gs1_values (codes "12*") ≡ None) × (gs1_values (codes "(01)1A*") ≡ None) × (gs1_values (codes "(){1") ≡ None)
    × (gs1_values (0x80 ∷ 0x31 ∷ []) ≡ None)
gs1_none = (refl, refl, refl, refl, refl)

-- EAN-13 4006381333931: the first digit 4 is ABAABB
ean13 : elements Ean13 (codes "4006381333931") ≡ Some (1 ∷ 1 ∷ 1 ∷ 3 ∷ 2 ∷ 1 ∷ 1 ∷ 1 ∷ 1 ∷ 2 ∷ 3 ∷ 1 ∷ 1 ∷ 1 ∷ 4 ∷ 1 ∷ 4 ∷ 1 ∷ 1 ∷ 3 ∷ 1 ∷ 2 ∷ 1 ∷ 1 ∷ 2 ∷ 2 ∷ 2 ∷ 1 ∷ 1 ∷ 1 ∷ 1 ∷ 1 ∷ 1 ∷ 4 ∷ 1 ∷ 1 ∷ 1 ∷ 4 ∷ 1 ∷ 1 ∷ 1 ∷ 4 ∷ 1 ∷ 1 ∷ 3 ∷ 1 ∷ 1 ∷ 2 ∷ 1 ∷ 4 ∷ 1 ∷ 1 ∷ 2 ∷ 2 ∷ 2 ∷ 1 ∷ 1 ∷ 1 ∷ 1 ∷ [])
unfolding set_a set_b right_digits left_digits parity_rows parities code39_data code39_star itf_rows itf_digits codabar_table code128_rows code128_table
ean13 = refl

ean13_read : read_elements Ean13 (1 ∷ 1 ∷ 1 ∷ 3 ∷ 2 ∷ 1 ∷ 1 ∷ 1 ∷ 1 ∷ 2 ∷ 3 ∷ 1 ∷ 1 ∷ 1 ∷ 4 ∷ 1 ∷ 4 ∷ 1 ∷ 1 ∷ 3 ∷ 1 ∷ 2 ∷ 1 ∷ 1 ∷ 2 ∷ 2 ∷ 2 ∷ 1 ∷ 1 ∷ 1 ∷ 1 ∷ 1 ∷ 1 ∷ 4 ∷ 1 ∷ 1 ∷ 1 ∷ 4 ∷ 1 ∷ 1 ∷ 1 ∷ 4 ∷ 1 ∷ 1 ∷ 3 ∷ 1 ∷ 1 ∷ 2 ∷ 1 ∷ 4 ∷ 1 ∷ 1 ∷ 2 ∷ 2 ∷ 2 ∷ 1 ∷ 1 ∷ 1 ∷ 1 ∷ []) ≡ Some (codes "4006381333931")
unfolding set_a set_b right_digits left_digits parity_rows parities code39_data code39_star itf_rows itf_digits codabar_table code128_rows code128_table
ean13_read = refl

-- EAN-8 5512345 and its check digit 7
ean8 : elements Ean8 (codes "55123457") ≡ Some (1 ∷ 1 ∷ 1 ∷ 1 ∷ 2 ∷ 3 ∷ 1 ∷ 1 ∷ 2 ∷ 3 ∷ 1 ∷ 2 ∷ 2 ∷ 2 ∷ 1 ∷ 2 ∷ 1 ∷ 2 ∷ 2 ∷ 1 ∷ 1 ∷ 1 ∷ 1 ∷ 1 ∷ 1 ∷ 4 ∷ 1 ∷ 1 ∷ 1 ∷ 1 ∷ 3 ∷ 2 ∷ 1 ∷ 2 ∷ 3 ∷ 1 ∷ 1 ∷ 3 ∷ 1 ∷ 2 ∷ 1 ∷ 1 ∷ 1 ∷ [])
unfolding set_a set_b right_digits left_digits parity_rows parities code39_data code39_star itf_rows itf_digits codabar_table code128_rows code128_table
ean8 = refl

ean8_read : read_elements Ean8 (1 ∷ 1 ∷ 1 ∷ 1 ∷ 2 ∷ 3 ∷ 1 ∷ 1 ∷ 2 ∷ 3 ∷ 1 ∷ 2 ∷ 2 ∷ 2 ∷ 1 ∷ 2 ∷ 1 ∷ 2 ∷ 2 ∷ 1 ∷ 1 ∷ 1 ∷ 1 ∷ 1 ∷ 1 ∷ 4 ∷ 1 ∷ 1 ∷ 1 ∷ 1 ∷ 3 ∷ 2 ∷ 1 ∷ 2 ∷ 3 ∷ 1 ∷ 1 ∷ 3 ∷ 1 ∷ 2 ∷ 1 ∷ 1 ∷ 1 ∷ []) ≡ Some (codes "55123457")
unfolding set_a set_b right_digits left_digits parity_rows parities code39_data code39_star itf_rows itf_digits codabar_table code128_rows code128_table
ean8_read = refl

-- CODE39 "A"
code39 : elements Code39 (codes "A") ≡ Some (1 ∷ 2 ∷ 1 ∷ 1 ∷ 2 ∷ 1 ∷ 2 ∷ 1 ∷ 1 ∷ 1 ∷ 2 ∷ 1 ∷ 1 ∷ 1 ∷ 1 ∷ 2 ∷ 1 ∷ 1 ∷ 2 ∷ 1 ∷ 1 ∷ 2 ∷ 1 ∷ 1 ∷ 2 ∷ 1 ∷ 2 ∷ 1 ∷ 1 ∷ [])
unfolding set_a set_b right_digits left_digits parity_rows parities code39_data code39_star itf_rows itf_digits codabar_table code128_rows code128_table
code39 = refl

code39_read : read_elements Code39 (1 ∷ 2 ∷ 1 ∷ 1 ∷ 2 ∷ 1 ∷ 2 ∷ 1 ∷ 1 ∷ 1 ∷ 2 ∷ 1 ∷ 1 ∷ 1 ∷ 1 ∷ 2 ∷ 1 ∷ 1 ∷ 2 ∷ 1 ∷ 1 ∷ 2 ∷ 1 ∷ 1 ∷ 2 ∷ 1 ∷ 2 ∷ 1 ∷ 1 ∷ []) ≡ Some (codes "A")
unfolding set_a set_b right_digits left_digits parity_rows parities code39_data code39_star itf_rows itf_digits codabar_table code128_rows code128_table
code39_read = refl

-- ITF "12": 1 in the bars, 2 in the spaces
itf : elements Itf (codes "12") ≡ Some (1 ∷ 1 ∷ 1 ∷ 1 ∷ 2 ∷ 1 ∷ 1 ∷ 2 ∷ 1 ∷ 1 ∷ 1 ∷ 1 ∷ 2 ∷ 2 ∷ 2 ∷ 1 ∷ 1 ∷ [])
unfolding set_a set_b right_digits left_digits parity_rows parities code39_data code39_star itf_rows itf_digits codabar_table code128_rows code128_table
itf = refl

itf_read : read_elements Itf (1 ∷ 1 ∷ 1 ∷ 1 ∷ 2 ∷ 1 ∷ 1 ∷ 2 ∷ 1 ∷ 1 ∷ 1 ∷ 1 ∷ 2 ∷ 2 ∷ 2 ∷ 1 ∷ 1 ∷ []) ≡ Some (codes "12")
unfolding set_a set_b right_digits left_digits parity_rows parities code39_data code39_star itf_rows itf_digits codabar_table code128_rows code128_table
itf_read = refl

-- CODABAR "A1A", and the same in lower case
codabar : elements Codabar (codes "A1A") ≡ Some (1 ∷ 1 ∷ 2 ∷ 2 ∷ 1 ∷ 2 ∷ 1 ∷ 1 ∷ 1 ∷ 1 ∷ 1 ∷ 1 ∷ 2 ∷ 2 ∷ 1 ∷ 1 ∷ 1 ∷ 1 ∷ 2 ∷ 2 ∷ 1 ∷ 2 ∷ 1 ∷ [])
unfolding set_a set_b right_digits left_digits parity_rows parities code39_data code39_star itf_rows itf_digits codabar_table code128_rows code128_table
codabar = refl

codabar_read : read_elements Codabar (1 ∷ 1 ∷ 2 ∷ 2 ∷ 1 ∷ 2 ∷ 1 ∷ 1 ∷ 1 ∷ 1 ∷ 1 ∷ 1 ∷ 2 ∷ 2 ∷ 1 ∷ 1 ∷ 1 ∷ 1 ∷ 2 ∷ 2 ∷ 1 ∷ 2 ∷ 1 ∷ []) ≡ Some (codes "A1A")
unfolding set_a set_b right_digits left_digits parity_rows parities code39_data code39_star itf_rows itf_digits codabar_table code128_rows code128_table
codabar_read = refl

-- CODE128 in set B: 104, 33, 66, and (104 + 33 + 2 * 66) % 103 = 63
code128 : elements Code128 (codes "{BAb") ≡ Some (2 ∷ 1 ∷ 1 ∷ 2 ∷ 1 ∷ 4 ∷ 1 ∷ 1 ∷ 1 ∷ 3 ∷ 2 ∷ 3 ∷ 1 ∷ 2 ∷ 1 ∷ 4 ∷ 2 ∷ 1 ∷ 1 ∷ 1 ∷ 1 ∷ 2 ∷ 2 ∷ 4 ∷ 2 ∷ 3 ∷ 3 ∷ 1 ∷ 1 ∷ 1 ∷ 2 ∷ [])
unfolding set_a set_b right_digits left_digits parity_rows parities code39_data code39_star itf_rows itf_digits codabar_table code128_rows code128_table
code128 = refl

code128_read : read_elements Code128 (2 ∷ 1 ∷ 1 ∷ 2 ∷ 1 ∷ 4 ∷ 1 ∷ 1 ∷ 1 ∷ 3 ∷ 2 ∷ 3 ∷ 1 ∷ 2 ∷ 1 ∷ 4 ∷ 2 ∷ 1 ∷ 1 ∷ 1 ∷ 1 ∷ 2 ∷ 2 ∷ 4 ∷ 2 ∷ 3 ∷ 3 ∷ 1 ∷ 1 ∷ 1 ∷ 2 ∷ []) ≡ Some (codes "{BAb")
unfolding set_a set_b right_digits left_digits parity_rows parities code39_data code39_star itf_rows itf_digits codabar_table code128_rows code128_table
code128_read = refl

-- in set C: 105, 12, 34, and (105 + 12 + 2 * 34) % 103 = 82
code128_digits : elements Code128 (0x7B ∷ 0x43 ∷ 12 ∷ 34 ∷ []) ≡ Some (2 ∷ 1 ∷ 1 ∷ 2 ∷ 3 ∷ 2 ∷ 1 ∷ 1 ∷ 2 ∷ 2 ∷ 3 ∷ 2 ∷ 1 ∷ 3 ∷ 1 ∷ 1 ∷ 2 ∷ 3 ∷ 1 ∷ 2 ∷ 1 ∷ 2 ∷ 4 ∷ 1 ∷ 2 ∷ 3 ∷ 3 ∷ 1 ∷ 1 ∷ 1 ∷ 2 ∷ [])
unfolding set_a set_b right_digits left_digits parity_rows parities code39_data code39_star itf_rows itf_digits codabar_table code128_rows code128_table
code128_digits = refl

code128_digits_read : read_elements Code128 (2 ∷ 1 ∷ 1 ∷ 2 ∷ 3 ∷ 2 ∷ 1 ∷ 1 ∷ 2 ∷ 2 ∷ 3 ∷ 2 ∷ 1 ∷ 3 ∷ 1 ∷ 1 ∷ 2 ∷ 3 ∷ 1 ∷ 2 ∷ 1 ∷ 2 ∷ 4 ∷ 1 ∷ 2 ∷ 3 ∷ 3 ∷ 1 ∷ 1 ∷ 1 ∷ 2 ∷ []) ≡ Some (0x7B ∷ 0x43 ∷ 12 ∷ 34 ∷ [])
unfolding set_a set_b right_digits left_digits parity_rows parities code39_data code39_star itf_rows itf_digits codabar_table code128_rows code128_table
code128_digits_read = refl

-- SHIFT from set A to b: 103, 33, 98, 66, and (103 + 33 + 2 * 98 + 3 * 66) % 103 = 15
code128_shift : elements Code128 (codes "{AA{Sb") ≡ Some (2 ∷ 1 ∷ 1 ∷ 4 ∷ 1 ∷ 2 ∷ 1 ∷ 1 ∷ 1 ∷ 3 ∷ 2 ∷ 3 ∷ 4 ∷ 1 ∷ 1 ∷ 3 ∷ 1 ∷ 1 ∷ 1 ∷ 2 ∷ 1 ∷ 4 ∷ 2 ∷ 1 ∷ 1 ∷ 1 ∷ 3 ∷ 2 ∷ 2 ∷ 2 ∷ 2 ∷ 3 ∷ 3 ∷ 1 ∷ 1 ∷ 1 ∷ 2 ∷ [])
unfolding set_a set_b right_digits left_digits parity_rows parities code39_data code39_star itf_rows itf_digits codabar_table code128_rows code128_table
code128_shift = refl

code128_shift_read : read_elements Code128 (2 ∷ 1 ∷ 1 ∷ 4 ∷ 1 ∷ 2 ∷ 1 ∷ 1 ∷ 1 ∷ 3 ∷ 2 ∷ 3 ∷ 4 ∷ 1 ∷ 1 ∷ 3 ∷ 1 ∷ 1 ∷ 1 ∷ 2 ∷ 1 ∷ 4 ∷ 2 ∷ 1 ∷ 1 ∷ 1 ∷ 3 ∷ 2 ∷ 2 ∷ 2 ∷ 2 ∷ 3 ∷ 3 ∷ 1 ∷ 1 ∷ 1 ∷ 2 ∷ []) ≡ Some (codes "{AA{Sb")
unfolding set_a set_b right_digits left_digits parity_rows parities code39_data code39_star itf_rows itf_digits codabar_table code128_rows code128_table
code128_shift_read = refl

-- in dots at a module width of 2, where a wide element has 5
itf_dots : drawn 512 Itf 2 (codes "12") ≡ Some (2 ∷ 2 ∷ 2 ∷ 2 ∷ 5 ∷ 2 ∷ 2 ∷ 5 ∷ 2 ∷ 2 ∷ 2 ∷ 2 ∷ 5 ∷ 5 ∷ 5 ∷ 2 ∷ 2 ∷ [])
unfolding set_a set_b right_digits left_digits parity_rows parities code39_data code39_star itf_rows itf_digits codabar_table code128_rows code128_table
itf_dots = refl

-- which are read with no module width
itf_dots_read : read Itf (2 ∷ 2 ∷ 2 ∷ 2 ∷ 5 ∷ 2 ∷ 2 ∷ 5 ∷ 2 ∷ 2 ∷ 2 ∷ 2 ∷ 5 ∷ 5 ∷ 5 ∷ 2 ∷ 2 ∷ []) ≡ Some (codes "12")
unfolding set_a set_b right_digits left_digits parity_rows parities code39_data code39_star itf_rows itf_digits codabar_table code128_rows code128_table
itf_dots_read = refl

-- and EAN-8 at a module width of 3
ean8_dots_read : read Ean8 (3 ∷ 3 ∷ 3 ∷ 3 ∷ 6 ∷ 9 ∷ 3 ∷ 3 ∷ 6 ∷ 9 ∷ 3 ∷ 6 ∷ 6 ∷ 6 ∷ 3 ∷ 6 ∷ 3 ∷ 6 ∷ 6 ∷ 3 ∷ 3 ∷ 3 ∷ 3 ∷ 3 ∷ 3 ∷ 12 ∷ 3 ∷ 3 ∷ 3 ∷ 3 ∷ 9 ∷ 6 ∷ 3 ∷ 6 ∷ 9 ∷ 3 ∷ 3 ∷ 9 ∷ 3 ∷ 6 ∷ 3 ∷ 3 ∷ 3 ∷ []) ≡ Some (codes "55123457")
unfolding set_a set_b right_digits left_digits parity_rows parities code39_data code39_star itf_rows itf_digits codabar_table code128_rows code128_table
ean8_dots_read = refl

-- 95 modules of 6 dots are more than 512 dots
too_wide : drawn 512 UpcA 6 (codes "036000291452") ≡ None
unfolding set_a set_b right_digits left_digits parity_rows parities code39_data code39_star itf_rows itf_digits codabar_table code128_rows code128_table
too_wide = refl

-- and 570 dots fit on a line of 576
fits_wide_paper : is_some (drawn 576 UpcA 6 (codes "036000291452")) ≡ true
unfolding set_a set_b right_digits left_digits parity_rows parities code39_data code39_star itf_rows itf_digits codabar_table code128_rows code128_table
fits_wide_paper = refl

-- the 49 dots of a small barcode fit on a line of 49, and on none of 48
fits_narrow_paper : is_some (drawn 49 Itf 2 (codes "12")) ≡ true
unfolding set_a set_b right_digits left_digits parity_rows parities code39_data code39_star itf_rows itf_digits codabar_table code128_rows code128_table
fits_narrow_paper = refl

too_wide_for_narrow_paper : drawn 48 Itf 2 (codes "12") ≡ None
unfolding set_a set_b right_digits left_digits parity_rows parities code39_data code39_star itf_rows itf_digits codabar_table code128_rows code128_table
too_wide_for_narrow_paper = refl

-- no module width is 7
no_module : drawn 512 Itf 7 (codes "12") ≡ None
unfolding set_a set_b right_digits left_digits parity_rows parities code39_data code39_star itf_rows itf_digits codabar_table code128_rows code128_table
no_module = refl

-- no odd number of digits
odd : drawn 512 Itf 2 (codes "123") ≡ None
unfolding set_a set_b right_digits left_digits parity_rows parities code39_data code39_star itf_rows itf_digits codabar_table code128_rows code128_table
odd = refl

-- no asterisk as data
asterisk : drawn 512 Code39 2 (codes "A*") ≡ None
unfolding set_a set_b right_digits left_digits parity_rows parities code39_data code39_star itf_rows itf_digits codabar_table code128_rows code128_table
asterisk = refl

-- no data
only_start : drawn 512 Code128 2 (codes "{A") ≡ None
unfolding set_a set_b right_digits left_digits parity_rows parities code39_data code39_star itf_rows itf_digits codabar_table code128_rows code128_table
only_start = refl

-- half an escape
half_escape : drawn 512 Code128 2 (codes "{BA{") ≡ None
unfolding set_a set_b right_digits left_digits parity_rows parities code39_data code39_star itf_rows itf_digits codabar_table code128_rows code128_table
half_escape = refl

-- no change to the code set that it is in
same_set : drawn 512 Code128 2 (codes "{BA{B") ≡ None
unfolding set_a set_b right_digits left_digits parity_rows parities code39_data code39_star itf_rows itf_digits codabar_table code128_rows code128_table
same_set = refl

-- letters of CODABAR are read in upper case
lower_case : elements Codabar (codes "a1d") ≡ elements Codabar (codes "A1D")
unfolding set_a set_b right_digits left_digits parity_rows parities code39_data code39_star itf_rows itf_digits codabar_table code128_rows code128_table
lower_case = refl

-- data is shown, two digits a byte in set C, and a function character as a space
shown_braces : shown Code128 (codes "{B{{x{1{C" ++ 7 ∷ 12 ∷ []) ≡ codes "{x 0712"
unfolding set_a set_b right_digits left_digits parity_rows parities code39_data code39_star itf_rows itf_digits codabar_table code128_rows code128_table
shown_braces = refl

-- control characters are shown as spaces
shown_control : shown Code128 (codes "{AH" ++ 9 ∷ codes "I") ≡ codes "H I"
unfolding set_a set_b right_digits left_digits parity_rows parities code39_data code39_star itf_rows itf_digits codabar_table code128_rows code128_table
shown_control = refl

-- a check digit is added as a digit
added : with_added (codes "5512345") (Some 7) ≡ codes "55123457"
unfolding set_a set_b right_digits left_digits parity_rows parities code39_data code39_star itf_rows itf_digits codabar_table code128_rows code128_table
added = refl

-- What the standards say of all their patterns: how many modules there are, or how many elements are wide, and in CODE128
-- that the bars are an even number of modules.
seven_modules : list_all (λ r. sum r == 7) set_a ≡ true
unfolding set_a
seven_modules = refl

three_wide_of_nine : list_all (λ r. sum r.1 == 12) code39_table ≡ true
unfolding code39_data code39_star
three_wide_of_nine = refl

two_wide_of_five : list_all (λ r. sum r == 7) itf_rows ≡ true
unfolding itf_rows
two_wide_of_five = refl

two_or_three_wide_of_seven : list_all (λ r. sum r.1 == 9 || sum r.1 == 10) codabar_table ≡ true
unfolding codabar_table
two_or_three_wide_of_seven = refl

eleven_modules : list_all (λ r. sum r == 11 && sum (bars r) % 2 == 0) code128_rows ≡ true
unfolding code128_rows
eleven_modules = refl

all_107 : length code128_rows ≡ 107
unfolding code128_rows
all_107 = refl

-- A wide element at each module width. (Reference: GS w.)
wide_elements : (wide 2 ≡ 5) × (wide 3 ≡ 8) × (wide 4 ≡ 10) × (wide 5 ≡ 13) × (wide 6 ≡ 16)
wide_elements = (refl, refl, refl, refl, refl)

-- The widest module is one.
widest_module : drawn 512 Itf 6 (codes "12") ≡ Some (6 ∷ 6 ∷ 6 ∷ 6 ∷ 16 ∷ 6 ∷ 6 ∷ 16 ∷ 6 ∷ 6 ∷ 6 ∷ 6 ∷ 16 ∷ 16 ∷ 16 ∷ 6 ∷ 6 ∷ [])
unfolding set_a set_b right_digits left_digits parity_rows parities code39_data code39_star itf_rows itf_digits codabar_table code128_rows code128_table
widest_module = refl

too_narrow : drawn 512 Itf 1 (codes "12") ≡ None
unfolding set_a set_b right_digits left_digits parity_rows parities code39_data code39_star itf_rows itf_digits codabar_table code128_rows code128_table
too_narrow = refl

-- 512 dots fit: with a narrow space each, 12 digits of 22 dots and 10 characters with three wide elements of 25, without the last space.
fits_exactly : is_some (drawn 512 Codabar 2 (codes "A012345678901::::////A")) ≡ true
unfolding set_a set_b right_digits left_digits parity_rows parities code39_data code39_star itf_rows itf_digits codabar_table code128_rows code128_table
fits_exactly = refl

-- 513 dots don't: seven characters of 74 dots, without the last space.
one_dot_too_wide : drawn 512 Code39 5 (codes "ABCDE") ≡ None
unfolding set_a set_b right_digits left_digits parity_rows parities code39_data code39_star itf_rows itf_digits codabar_table code128_rows code128_table
one_dot_too_wide = refl

-- The longest that fit: 15 characters of CODE39, and 20 of CODE128.
longest_code39 : is_some (drawn 512 Code39 2 (codes "ABCDEFGHIJKLMNO")) ≡ true
unfolding set_a set_b right_digits left_digits parity_rows parities code39_data code39_star itf_rows itf_digits codabar_table code128_rows code128_table
longest_code39 = refl

longest_code128 : is_some (drawn 512 Code128 2 (codes "{BABCDEFGHIJKLMNOPQRST")) ≡ true
unfolding set_a set_b right_digits left_digits parity_rows parities code39_data code39_star itf_rows itf_digits codabar_table code128_rows code128_table
longest_code128 = refl

-- 104 + 1 * 33 + 2 * 34 + .. + 20 * 52 = 9694, which is 94 * 103 + 12.
long_check : check_value (104 ∷ 33 ∷ 34 ∷ 35 ∷ 36 ∷ 37 ∷ 38 ∷ 39 ∷ 40 ∷ 41 ∷ 42 ∷ 43 ∷ 44 ∷ 45 ∷ 46 ∷ 47 ∷ 48 ∷ 49 ∷ 50 ∷ 51 ∷ 52 ∷ []) ≡ 12
long_check = refl

-- Function characters in each code set.
functions : (code128_values (codes "{A{2{3A{4{1") ≡ Some (103 ∷ 97 ∷ 96 ∷ 33 ∷ 101 ∷ 102 ∷ []))
    × (code128_values (codes "{B{2{3A{4{1") ≡ Some (104 ∷ 97 ∷ 96 ∷ 33 ∷ 100 ∷ 102 ∷ []))
    × (code128_values (codes "{C{1" ++ 12 ∷ codes "{AA") ≡ Some (105 ∷ 102 ∷ 12 ∷ 101 ∷ 33 ∷ []))
functions = (refl, refl, refl)

-- The text beside the bars.
shown_upce : shown UpcE (codes "012345000065") ≡ codes "01234565"
shown_upce = refl

shown_code93 : shown Code93 (codes "a" ++ 9 ∷ codes "b") ≡ codes "a b"
shown_code93 = refl

shown_gs1 : shown Gs1Code128 (codes "(01)0950110153000*(10)A{1{(") ≡ codes "(01)09501101530003(10)A ("
shown_gs1 = refl

-- All printable bytes are shown.
shown_all : shown Itf (codes " !\"#$%&'()*+,-./0123456789:;<=>?@ABCDEFGHIJKLMNOPQRSTUVWXYZ[\\]^_`abcdefghijklmnopqrstuvwxyz{|}~")
    ≡ codes " !\"#$%&'()*+,-./0123456789:;<=>?@ABCDEFGHIJKLMNOPQRSTUVWXYZ[\\]^_`abcdefghijklmnopqrstuvwxyz{|}~"
shown_all = refl

-- A table as one number: each row read as a decimal number, times its place, counted from 1, and all of them added up. The
-- numbers were computed from a second list of the patterns, not from these tables: two patterns that change places show.
numeral : ℕ → List ℕ → ℕ
numeral n [] = n
numeral n (w ∷ ws) = numeral (10 * n + w) ws

digest : ℕ → List (List ℕ) → ℕ
digest place [] = 0
digest place (r ∷ rs) = place * numeral 0 r + digest (place + 1) rs

set_a_digest : digest 1 set_a ≡ 93040
unfolding set_a digest numeral
set_a_digest = refl

parity_digest : digest 1 parity_rows ≡ 485424
unfolding parity_rows digest numeral
parity_digest = refl

upce_parity_digest : digest 1 upce_parity_rows ≡ 5625570
unfolding upce_parity_rows digest numeral
upce_parity_digest = refl

itf_digest : digest 1 itf_rows ≡ 847303
unfolding itf_rows digest numeral
itf_digest = refl

code93_digest : digest 1 code93_rows ≡ 208693323
unfolding code93_rows digest numeral
code93_digest = refl

code128_digest : digest 1 code128_rows ≡ 1231520607
unfolding code128_rows digest numeral
code128_digest = refl

-- With the character before each pattern.
code39_digest : digest 1 (map (λ r. r.0 ∷ r.1) code39_data) ≡ 63351036268116
unfolding code39_data digest numeral
code39_digest = refl

codabar_digest : digest 1 (map (λ r. r.0 ∷ r.1) codabar_table) ≡ 116430932601
unfolding codabar_table digest numeral
codabar_digest = refl
