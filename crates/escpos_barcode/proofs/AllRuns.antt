-- Each bar and each space that is drawn has 2 to 24 dots.
use Rattle.std.proofs.Common.{◌≡◌, ℕ, ◌*◌, List, [], ◌∷◌, ◌++◌, map, take, drop, length, refl, sym, ap, ◌∙◌, arith, true, false, Bool, Some}
use Rattle.std.specs.Prelude.{◌==◌, ◌&&◌, ◌||◌, nat_le, not, flat_map, replicate, IsTrue, if◌then◌else◌}
use Rattle.std.specs.List.{list_all}
use Rattle.std.proofs.lemmas.Bool.{and_parts, and_from, leb-true, agree_below, agree_below_at}
use Rattle.escpos_command.specs.Barcodes.{is_content, is_digit}
use Rattle.escpos_command.specs.declared.bars.Symbology.{Symbology}
use Rattle.escpos_command.specs.declared.bars.Symbology.TheVariants.{UpcA, UpcE, Ean13, Ean8, Code39, Itf, Codabar, Code93, Code128, Gs1Code128}
use Rattle.escpos_barcode.specs.Chains.{given}
use Rattle.escpos_barcode.specs.Code93.{is_code93_content, code93_values, with_both}
use Rattle.escpos_barcode.specs.Code128.{code128_values, check_value}
use Rattle.escpos_barcode.specs.Gs1.{gs1_values}
use Rattle.escpos_barcode.specs.Drawn.{has_two_widths, wide, element_dots, is_module, is_run, drawn}
use Rattle.escpos_barcode.specs.Elements.{guard, centre, in_sets, halves, are_digits, spaced, upper, is_code39_content, code39_elements, pairs, itf_start, itf_stop, is_itf_content, upce_parts, upce_end, upce_elements, code93_elements, code128_elements, elements}
use Rattle.escpos_barcode.specs.Pen.{is_element}
use Rattle.escpos_barcode.specs.Tables.{row, set_a, set_b, left_digits, right_digits, parities, upce_parities, code39_data, code39_star, code39_table, itf_rows, itf_digits, codabar_table, code93_rows, code93_table, code128_rows, code128_table}
use Rattle.escpos_barcode.proofs.DrawnOf.{drawn_of}
use Rattle.escpos_barcode.proofs.AllElements.{rows_all, spaced_all, pairs_all}
use Rattle.escpos_barcode.proofs.Lookups.{some_if, if_there, given_some, all_append}
use Rattle.escpos_barcode.proofs.ReadSpaced.{implied}

-- ## The elements of the tables

left_elements : list_all (λ r. list_all is_element r.1) left_digits ≡ true
unfolding set_a set_b left_digits
left_elements = refl

right_elements : list_all (λ r. list_all is_element r.1) right_digits ≡ true
unfolding set_a right_digits
right_elements = refl

star_elements : list_all (λ r. list_all is_element r.1) code39_table ≡ true
unfolding code39_data code39_star
star_elements = refl

itf_elements : list_all (λ r. list_all is_element r.1) itf_digits ≡ true
unfolding itf_rows itf_digits
itf_elements = refl

codabar_elements : list_all (λ r. list_all is_element r.1) codabar_table ≡ true
unfolding codabar_table
codabar_elements = refl

code93_values_elements : list_all (λ r. list_all is_element r.1) code93_table ≡ true
unfolding code93_rows code93_table
code93_values_elements = refl

value_elements : list_all (λ r. list_all is_element r.1) code128_table ≡ true
unfolding code128_rows code128_table
value_elements = refl

-- ## What is drawn of them

halves_elements : (sets digits : List ℕ) → list_all is_element (halves sets digits) ≡ true
halves_elements sets digits =
    let left : List ℕ = flat_map (row left_digits) (in_sets sets (take (length sets) digits)) in
    let right : List ℕ = flat_map (row right_digits) (drop (length sets) digits) in
    all_append is_element left (centre ++ (right ++ guard)) (rows_all is_element refl left_digits (in_sets sets (take (length sets) digits)) left_elements)
    (all_append is_element right guard (rows_all is_element refl right_digits (drop (length sets) digits) right_elements) refl)

drawn_values : (values : List ℕ) → list_all is_element (code128_elements values) ≡ true
drawn_values values =
    let all : List ℕ = values ++ check_value values ∷ 106 ∷ [] in
    all_append is_element (flat_map (row code128_table) all) (2 ∷ []) (rows_all is_element refl code128_table all value_elements) refl

all_elements : (symbology : Symbology) (content es : List ℕ) → elements symbology content ≡ Some es → list_all is_element es ≡ true
all_elements UpcA content es e =
    let found = some_if (are_digits 12 content) (halves (replicate 6 0) content) es e in ap (list_all is_element) (sym found.1) ∙ halves_elements (replicate 6 0) content
all_elements UpcE content es e =
    let all = if_there (list_all is_digit content) (given (upce_parts content) (λ p. Some (upce_elements p.0 p.1))) es e in
    let found = given_some (upce_parts content) (λ p. Some (upce_elements p.0 p.1)) es all.1 in
    let drawn : upce_elements found.0.0 found.0.1 ≡ es = cc in
    let symbols : List ℕ = in_sets (row upce_parities found.0.1) found.0.0 in
    ap (list_all is_element) (sym drawn) ∙ all_append is_element (flat_map (row left_digits) symbols) upce_end (rows_all is_element refl left_digits symbols left_elements) refl
all_elements Ean8 content es e =
    let found = some_if (are_digits 8 content) (halves (replicate 4 0) content) es e in ap (list_all is_element) (sym found.1) ∙ halves_elements (replicate 4 0) content
all_elements Ean13 [] es e = absurd cc
all_elements Ean13 (first ∷ digits) es e =
    let found = some_if (are_digits 13 (first ∷ digits)) (halves (row parities first) digits) es e in
    ap (list_all is_element) (sym found.1) ∙ halves_elements (row parities first) digits
all_elements Code39 content es e =
    let found = some_if (is_code39_content content) (code39_elements content) es e in
    ap (list_all is_element) (sym found.1) ∙ spaced_all is_element refl code39_table (0x2A ∷ content ++ 0x2A ∷ []) star_elements
all_elements Codabar content es e =
    let found = some_if (is_content Codabar content) (spaced codabar_table (map upper content)) es e in
    ap (list_all is_element) (sym found.1) ∙ spaced_all is_element refl codabar_table (map upper content) codabar_elements
all_elements Itf content es e =
    let found = some_if (is_itf_content content) (itf_start ++ (pairs content ++ itf_stop)) es e in
    ap (list_all is_element) (sym found.1) ∙ all_append is_element (pairs content) itf_stop (pairs_all is_element refl content itf_elements) refl
all_elements Code93 content es e =
    let found = some_if (is_code93_content content) (code93_elements (code93_values content)) es e in
    let all : List ℕ = 47 ∷ with_both (code93_values content) ++ 47 ∷ [] in
    ap (list_all is_element) (sym found.1) ∙ all_append is_element (flat_map (row code93_table) all) (1 ∷ []) (rows_all is_element refl code93_table all code93_values_elements) refl
all_elements Code128 content es e =
    let found = given_some (code128_values content) (λ values. Some (code128_elements values)) es e in
    let drawn : code128_elements found.0 ≡ es = cc in
    ap (list_all is_element) (sym drawn) ∙ drawn_values found.0
all_elements Gs1Code128 content es e =
    let found = given_some (gs1_values content) (λ values. Some (code128_elements values)) es e in
    let drawn : code128_elements found.0 ≡ es = cc in
    ap (list_all is_element) (sym drawn) ∙ drawn_values found.0

-- ## In dots, computed over all module widths and elements

abbrev two_width_run : ℕ → Bool
two_width_run m = not (is_module m) || is_run m && is_run (wide m)

two_width_runs : agree_below two_width_run (λ m. true) 7 ≡ true
two_width_runs = refl

abbrev modular_run : ℕ → ℕ → Bool
modular_run k m = not (is_module m) || (not (is_element k) || is_run (k * m))

abbrev modular_row : ℕ → Bool
modular_row k = agree_below (modular_run k) (λ m. true) 7

modular_runs : agree_below modular_row (λ k. true) 5 ≡ true
modular_runs = refl

element_run : (symbology : Symbology) (m k : ℕ) → is_module m ≡ true → is_element k ≡ true → is_run (element_dots symbology m k) ≡ true
element_run symbology m k h w =
    let range = and_parts (nat_le 2 m) (nat_le m 6) h in
    let most = leb-true m 6 range.1 in
    let sizes = and_parts (nat_le 1 k) (nat_le k 4) w in
    let widest = leb-true k 4 sizes.1 in
    let two = and_parts (is_run m) (is_run (wide m)) (implied (is_module m) (is_run m && is_run (wide m)) h (agree_below_at two_width_run (λ n. true) 7 m two_width_runs (omega arith))) in
    let here = agree_below_at (modular_run k) (λ n. true) 7 m (agree_below_at modular_row (λ n. true) 5 k modular_runs (omega arith)) (omega arith) in
    let many = implied (is_element k) (is_run (k * m)) w (implied (is_module m) (not (is_element k) || is_run (k * m)) h here) in
    by_kind (has_two_widths symbology) (k == 1) m k two.0 two.1 many
  where
    by_kind : (t narrow : Bool) (m k : ℕ) → is_run m ≡ true → is_run (wide m) ≡ true → is_run (k * m) ≡ true →
        is_run (if t then (if narrow then m else wide m) else k * m) ≡ true
    by_kind true true m k a b c = a
    by_kind true false m k a b c = b
    by_kind false narrow m k a b c = c

all_runs : (symbology : Symbology) (m : ℕ) (es : List ℕ) → is_module m ≡ true → list_all is_element es ≡ true → list_all is_run (map (element_dots symbology m) es) ≡ true
all_runs symbology m [] h w = refl
all_runs symbology m (k ∷ ks) h w =
    let parts = and_parts (is_element k) (list_all is_element ks) w in
    and_from (is_run (element_dots symbology m k)) (list_all is_run (map (element_dots symbology m) ks)) (element_run symbology m k h parts.0) (all_runs symbology m ks h parts.1)

pub drawn_runs : (line_dots : ℕ) (symbology : Symbology) (module_width : ℕ) (content widths : List ℕ) → drawn line_dots symbology module_width content ≡ Some widths → IsTrue (list_all is_run widths)
drawn_runs line_dots symbology module_width content widths e =
    let of = drawn_of line_dots symbology module_width content widths e in
    ap (list_all is_run) (sym of.dots) ∙ all_runs symbology module_width of.drawn_elements of.range (all_elements symbology content of.drawn_elements of.said)
