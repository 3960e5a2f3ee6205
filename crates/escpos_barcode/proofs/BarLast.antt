-- What is drawn has an odd number of bars and spaces: it ends with a bar, as it begins with one.
use Rattle.std.proofs.Common.{◌≡◌, ℕ, List, [], ◌∷◌, ◌++◌, length, take, drop, refl, sym, ap, ◌∙◌, arith, true, Bool, Some}
use Rattle.std.specs.Prelude.{◌==◌, ◌%◌, flat_map, replicate}
use Rattle.std.proofs.lemmas.Bool.{eqb-true}
use Rattle.std.proofs.Math.ListN.{length-append}
use Rattle.escpos_command.specs.declared.bars.Symbology.{Symbology}
use Rattle.escpos_command.specs.declared.bars.Symbology.TheVariants.{UpcA, UpcE, Ean13, Ean8, Code39, Itf, Codabar, Code93, Code128, Gs1Code128}
use Rattle.escpos_barcode.specs.Drawn.{element_dots, drawn}
use Rattle.escpos_barcode.specs.Elements.{guard, centre, in_sets, halves, are_digits, interleaved, pairs, itf_start, itf_stop, is_itf_content, upce_parts, upce_end, upce_elements, code93_elements, code128_elements, elements}
use Rattle.escpos_command.specs.Barcodes.{is_digit}
use Rattle.std.specs.List.{list_all}
use Rattle.escpos_barcode.specs.Chains.{given}
use Rattle.escpos_barcode.specs.Code93.{is_code93_content, code93_values, with_both}
use Rattle.escpos_barcode.specs.Code128.{code128_values, check_value}
use Rattle.escpos_barcode.specs.Gs1.{gs1_values}
use Rattle.escpos_barcode.specs.Tables.{row, set_a, set_b, left_digits, right_digits, parities, upce_parities, itf_digits, code93_rows, code93_table, code128_rows, code128_table}
use Rattle.escpos_barcode.proofs.DrawnOf.{drawn_of}
use Rattle.escpos_barcode.proofs.Rows.{row_all}
use Rattle.escpos_barcode.proofs.ReadSpaced.{code39_odd, codabar_odd}
use Rattle.escpos_barcode.proofs.Lookups.{some_if, if_there, given_some, map_long}

is_even : List ℕ → Bool
is_even es = length es % 2 == 0

flat_even : (f : ℕ → List ℕ) (xs : List ℕ) → ((x : ℕ) → is_even (f x) ≡ true) → length (flat_map f xs) % 2 ≡ 0
unfolding is_even
flat_even f [] h = refl
flat_even f (x ∷ xs) h =
    let first = eqb-true (length (f x) % 2) 0 (h x) in
    let more = flat_even f xs h in
    let both = length-append (f x) (flat_map f xs) in
    omega arith

left_even : (v : ℕ) → is_even (row left_digits v) ≡ true
unfolding is_even set_a set_b left_digits
left_even v = row_all (λ es. length es % 2 == 0) left_digits v refl refl

right_even : (d : ℕ) → is_even (row right_digits d) ≡ true
unfolding is_even set_a right_digits
right_even d = row_all (λ es. length es % 2 == 0) right_digits d refl refl

code93_even : (v : ℕ) → is_even (row code93_table v) ≡ true
unfolding is_even code93_rows code93_table
code93_even v = row_all (λ es. length es % 2 == 0) code93_table v refl refl

code128_even : (v : ℕ) → is_even (row code128_table v) ≡ true
unfolding is_even code128_rows code128_table
code128_even v = row_all (λ es. length es % 2 == 0) code128_table v refl refl

halves_odd : (sets digits : List ℕ) → length (halves sets digits) % 2 ≡ 1
halves_odd sets digits =
    let left : List ℕ = flat_map (row left_digits) (in_sets sets (take (length sets) digits)) in
    let right : List ℕ = flat_map (row right_digits) (drop (length sets) digits) in
    let first = flat_even (row left_digits) (in_sets sets (take (length sets) digits)) left_even in
    let second = flat_even (row right_digits) (drop (length sets) digits) right_even in
    let outer = length-append left (centre ++ (right ++ guard)) in
    let inner = length-append right guard in
    omega arith

interleaved_even : (bars spaces : List ℕ) → length (interleaved bars spaces) % 2 ≡ 0
interleaved_even [] spaces = refl
interleaved_even (b ∷ bars) [] = refl
interleaved_even (b ∷ bars) (s ∷ spaces) = let more = interleaved_even bars spaces in omega arith

pairs_even : (bs : List ℕ) → length (pairs bs) % 2 ≡ 0
pairs_even [] = refl
pairs_even (a ∷ []) = refl
pairs_even (a ∷ b ∷ bs) =
    let first = interleaved_even (row itf_digits a) (row itf_digits b) in
    let more = pairs_even bs in
    let both = length-append (interleaved (row itf_digits a) (row itf_digits b)) (pairs bs) in
    omega arith

values_odd : (values es : List ℕ) → code128_elements values ≡ es → length es % 2 ≡ 1
values_odd values es e =
    let all : List ℕ = flat_map (row code128_table) (values ++ check_value values ∷ 106 ∷ []) in
    let even = flat_even (row code128_table) (values ++ check_value values ∷ 106 ∷ []) code128_even in
    let last = length-append all (2 ∷ []) in
    let same_count = ap length e in
    omega arith

elements_odd : (symbology : Symbology) (content es : List ℕ) → elements symbology content ≡ Some es → length es % 2 ≡ 1
elements_odd UpcA content es e =
    let found = some_if (are_digits 12 content) (halves (replicate 6 0) content) es e in ap (λ xs. length xs % 2) (sym found.1) ∙ halves_odd (replicate 6 0) content
elements_odd UpcE content es e =
    let all = if_there (list_all is_digit content) (given (upce_parts content) (λ p. Some (upce_elements p.0 p.1))) es e in
    let found = given_some (upce_parts content) (λ p. Some (upce_elements p.0 p.1)) es all.1 in
    let drawn : upce_elements found.0.0 found.0.1 ≡ es = cc in
    let symbols : List ℕ = in_sets (row upce_parities found.0.1) found.0.0 in
    let even = flat_even (row left_digits) symbols left_even in
    let inner = length-append (flat_map (row left_digits) symbols) upce_end in
    let same_count = ap length drawn in
    omega arith
elements_odd Ean8 content es e =
    let found = some_if (are_digits 8 content) (halves (replicate 4 0) content) es e in ap (λ xs. length xs % 2) (sym found.1) ∙ halves_odd (replicate 4 0) content
elements_odd Ean13 [] es e = absurd cc
elements_odd Ean13 (first ∷ digits) es e =
    let found = some_if (are_digits 13 (first ∷ digits)) (halves (row parities first) digits) es e in
    ap (λ xs. length xs % 2) (sym found.1) ∙ halves_odd (row parities first) digits
elements_odd Code39 content es e = code39_odd content es e
elements_odd Codabar content es e = codabar_odd content es e
elements_odd Itf content es e =
    let found = some_if (is_itf_content content) (itf_start ++ (pairs content ++ itf_stop)) es e in
    let inner = length-append (pairs content) itf_stop in
    let even = pairs_even content in
    let same_count = ap length found.1 in
    omega arith
elements_odd Code93 content es e =
    let found = some_if (is_code93_content content) (code93_elements (code93_values content)) es e in
    let symbols : List ℕ = 47 ∷ with_both (code93_values content) ++ 47 ∷ [] in
    let all : List ℕ = flat_map (row code93_table) symbols in
    let even = flat_even (row code93_table) symbols code93_even in
    let last = length-append all (1 ∷ []) in
    let same_count = ap length found.1 in
    omega arith
elements_odd Code128 content es e =
    let found = given_some (code128_values content) (λ values. Some (code128_elements values)) es e in
    values_odd found.0 es cc
elements_odd Gs1Code128 content es e =
    let found = given_some (gs1_values content) (λ values. Some (code128_elements values)) es e in
    values_odd found.0 es cc

pub drawn_odd : (line_dots : ℕ) (symbology : Symbology) (module_width : ℕ) (content widths : List ℕ) → drawn line_dots symbology module_width content ≡ Some widths → length widths % 2 ≡ 1
drawn_odd line_dots symbology module_width content widths e =
    let of = drawn_of line_dots symbology module_width content widths e in
    ap (λ ws. length ws % 2) (sym of.dots) ∙ ap (λ n. n % 2) (map_long (element_dots symbology module_width) of.drawn_elements) ∙ elements_odd symbology content of.drawn_elements of.said
