-- Widths in dots are read back as elements.
use Rattle.std.proofs.Common.{◌≡◌, ℕ, ◌*◌, ◌<◌, inl, inr, List, [], ◌∷◌, ◌++◌, length, map, refl, sym, ap, ◌∙◌, arith, true, false, Bool, Option, Some, None, add-zero, subst}
use Rattle.std.specs.Prelude.{◌==◌, ◌||◌, ◌/◌, ◌%◌, nat_le, nat_lt, not, flat_map, slice_index, replicate, if◌then◌else◌}
use Rattle.std.specs.List.{list_all}
use Rattle.std.proofs.lemmas.Bool.{and_parts, eqb-true, eq-eqb, leb-true, lt-ltb, le-ltb, agree_below, agree_below_at}
use Rattle.std.proofs.lemmas.Bool.Decides.{eqb_tells}
use Rattle.std.proofs.lemmas.Nat.{div-mul-add, mod-mul-add}
use Rattle.escpos_command.specs.Barcodes.{is_digit, is_codabar_end, is_content, has_length, allows, all_from}
use Rattle.escpos_command.specs.declared.bars.Symbology.{Symbology}
use Rattle.escpos_command.specs.declared.bars.Symbology.TheVariants.{UpcA, UpcE, Ean13, Ean8, Code39, Itf, Codabar, Code93, Code128, Gs1Code128}
use Rattle.escpos_barcode.specs.declared.code128.CodeSet.{CodeSet}
use Rattle.escpos_barcode.specs.declared.code128.CodeSet.TheVariants.{A, B, C}
use Rattle.escpos_barcode.specs.Chains.{given, joined}
use Rattle.escpos_barcode.specs.declared.code128.Character.{Character}
use Rattle.escpos_barcode.specs.Code93.{is_code93_content, code93_values, with_both}
use Rattle.escpos_barcode.specs.Code128.{characters, started, start_value, code128_values, check_value}
use Rattle.escpos_barcode.specs.Gs1.{gs1_parts, said, gs1_characters, gs1_values}
use Rattle.escpos_barcode.specs.Drawn.{wide, element_dots, is_module}
use Rattle.escpos_barcode.specs.Elements.{spaced, pairs, itf_start, itf_stop, is_itf_content, is_code39_content, code39_elements, code128_elements, upper, are_digits, halves, upca, ean8, ean13, code39, itf, codabar, upce_parts, upce_elements, upce, code93_elements, code93, code128, gs1_128, elements}
use Rattle.escpos_barcode.specs.Reader.{in_modules, whole_modules, narrow_or_wide, units}
use Rattle.escpos_barcode.specs.Tables.{row, parities, code39_data, code39_star, code39_table, itf_rows, itf_digits, codabar_table, code93_rows, code93_table, code128_rows, code128_table}
use Rattle.escpos_barcode.proofs.Lookups.{some_if, if_there, given_some, all_append}
use Rattle.escpos_barcode.proofs.AllElements.{spaced_all, pairs_all}
use Rattle.escpos_barcode.proofs.ReadSpaced.{end_small, implied}
use Rattle.escpos_barcode.proofs.ReadCode128.{started_read}

-- ## The first element

abbrev starts : ℕ → List ℕ → Bool
starts n [] = false
starts n (k ∷ ks) = k == n

starts_append : (n : ℕ) (xs ys : List ℕ) → starts n xs ≡ true → starts n (xs ++ ys) ≡ true
starts_append n [] ys h = absurd cc
starts_append n (x ∷ xs) ys h = h

first_of : (f : ℕ → ℕ) (n : ℕ) (es : List ℕ) → starts n es ≡ true → slice_index (map f es) 0 ≡ f n
first_of f n [] h = absurd cc
first_of f n (k ∷ ks) h = ap f (eqb-true k n h)

-- ## Whole modules

modules_of : (m : ℕ) (es : List ℕ) → 0 < m → in_modules m (map (λ k. k * m) es) ≡ Some es
modules_of m [] h = refl
modules_of m (k ∷ ks) h =
    let rest : (k * m) % m ≡ 0 = ap (λ x. x % m) (sym (add-zero (k * m))) ∙ mod-mul-add k m 0 h in
    let count : (k * m) / m ≡ k = ap (λ x. x / m) (sym (add-zero (k * m))) ∙ div-mul-add k m 0 h in
    let more : Option (List ℕ) = in_modules m (map (λ j. j * m) ks) in
    ap (λ (t : Bool). if t then joined (((k * m) / m) ∷ []) more else None) (eq-eqb ((k * m) % m) 0 rest)
    ∙ ap (λ c. joined (c ∷ []) more) count ∙ ap (λ o. joined (k ∷ []) o) (modules_of m ks h)

modular_units : (first m : ℕ) (es : List ℕ) → 0 < m → first ≡ m → whole_modules first (map (λ k. k * m) es) ≡ Some es
modular_units first m es h e =
    ap (λ f. whole_modules f (map (λ k. k * m) es)) e
    ∙ ap (λ (t : Bool). if t then in_modules m (map (λ k. k * m) es) else None) (lt-ltb 0 m h) ∙ modules_of m es h

-- ## Narrow and wide

abbrev is_width : ℕ → Bool
is_width k = k == 1 || k == 2

-- Computed over all module widths: a wide element is more than one and a half times as wide as a narrow one.
abbrev tells_wide : ℕ → Bool
tells_wide m = not (is_module m) || nat_lt (3 * m) (2 * wide m)

tells_wide_all : agree_below tells_wide (λ m. true) 7 ≡ true
tells_wide_all = refl

is_wider : (m : ℕ) → is_module m ≡ true → nat_lt (3 * m) (2 * wide m) ≡ true
is_wider m h =
    let range = and_parts (nat_le 2 m) (nat_le m 6) h in
    let most = leb-true m 6 range.1 in
    implied (is_module m) (nat_lt (3 * m) (2 * wide m)) h (agree_below_at tells_wide (λ k. true) 7 m tells_wide_all (omega arith))

abbrev two_widths : ℕ → ℕ → ℕ
two_widths m k = if k == 1 then m else wide m

width_read : (m k : ℕ) → is_module m ≡ true → is_width k ≡ true → narrow_or_wide m (two_widths m k) ≡ k
width_read m k h w = elim (eqb_tells k 1) [
  | inl e ↦
      ap (λ (t : Bool). narrow_or_wide m (if t then m else wide m)) e.0 ∙ ap (λ (t : Bool). if t then 2 else 1) (le-ltb (3 * m) (2 * m) (omega arith)) ∙ sym e.1
  | inr e ↦
      let two = eqb-true k 2 (ap (λ (t : Bool). t || k == 2) (sym e.0) ∙ w) in
      ap (λ (t : Bool). narrow_or_wide m (if t then m else wide m)) e.0 ∙ ap (λ (t : Bool). if t then 2 else 1) (is_wider m h) ∙ sym two
]

widths_of : (m : ℕ) (es : List ℕ) → is_module m ≡ true → list_all is_width es ≡ true → map (narrow_or_wide m) (map (two_widths m) es) ≡ es
widths_of m [] h w = refl
widths_of m (k ∷ ks) h w =
    let parts = and_parts (is_width k) (list_all is_width ks) w in
    ap (λ x. x ∷ map (narrow_or_wide m) (map (two_widths m) ks)) (width_read m k h parts.0) ∙ ap (λ xs. k ∷ xs) (widths_of m ks h parts.1)

two_width_units : (first m : ℕ) (es : List ℕ) → is_module m ≡ true → list_all is_width es ≡ true → first ≡ m →
    Some (map (narrow_or_wide first) (map (two_widths m) es)) ≡ Some es
two_width_units first m es h w e = ap (λ f. Some (map (narrow_or_wide f) (map (two_widths m) es))) e ∙ ap (λ xs. Some xs) (widths_of m es h w)

-- ## The widths of CODE39, CODABAR and ITF

itf_widths : list_all (λ r. list_all is_width r.1) itf_digits ≡ true
unfolding itf_rows itf_digits
itf_widths = refl

code39_widths : list_all (λ r. list_all is_width r.1) code39_table ≡ true
unfolding code39_data code39_star
code39_widths = refl

code39_starts : starts 1 code39_star ≡ true
unfolding code39_star
code39_starts = refl

codabar_widths : list_all (λ r. list_all is_width r.1) codabar_table ≡ true
unfolding codabar_table
codabar_widths = refl

-- Computed over all bytes: the letters that CODABAR starts with begin with a narrow bar.
end_narrow : ℕ → Bool
end_narrow b = not (is_codabar_end b) || starts 1 (row codabar_table (upper b))

ends_narrow : agree_below end_narrow (λ b. true) 128 ≡ true
unfolding end_narrow codabar_table
ends_narrow = refl

codabar_starts : (b : ℕ) → is_codabar_end b ≡ true → starts 1 (row codabar_table (upper b)) ≡ true
unfolding end_narrow
codabar_starts b h =
    implied (is_codabar_end b) (starts 1 (row codabar_table (upper b))) h (agree_below_at end_narrow (λ c. true) 128 b ends_narrow (end_small b h))

code93_starts : starts 1 (row code93_table 47) ≡ true
unfolding code93_rows code93_table
code93_starts = refl

code128_starts : (set : CodeSet) → starts 2 (row code128_table (start_value set)) ≡ true
unfolding code128_rows code128_table
code128_starts A = refl
code128_starts B = refl
code128_starts C = refl

-- ## Each symbology

positive : (m : ℕ) → is_module m ≡ true → 0 < m
positive m h = let range = and_parts (nat_le 2 m) (nat_le m 6) h in let least = leb-true 2 m range.0 in omega arith

upca_units : (m : ℕ) (content es : List ℕ) → is_module m ≡ true → upca content ≡ Some es → units UpcA (map (element_dots UpcA m) es) ≡ Some es
upca_units m content es h e =
    let found = some_if (are_digits 12 content) (halves (replicate 6 0) content) es e in
    ap (λ xs. units UpcA (map (element_dots UpcA m) xs)) (sym found.1)
    ∙ modular_units (1 * m) m (halves (replicate 6 0) content) (positive m h) (omega arith) ∙ ap (λ xs. Some xs) found.1

ean8_units : (m : ℕ) (content es : List ℕ) → is_module m ≡ true → ean8 content ≡ Some es → units Ean8 (map (element_dots Ean8 m) es) ≡ Some es
ean8_units m content es h e =
    let found = some_if (are_digits 8 content) (halves (replicate 4 0) content) es e in
    ap (λ xs. units Ean8 (map (element_dots Ean8 m) xs)) (sym found.1)
    ∙ modular_units (1 * m) m (halves (replicate 4 0) content) (positive m h) (omega arith) ∙ ap (λ xs. Some xs) found.1

ean13_units : (m : ℕ) (content es : List ℕ) → is_module m ≡ true → ean13 content ≡ Some es → units Ean13 (map (element_dots Ean13 m) es) ≡ Some es
ean13_units m [] es h e = absurd cc
ean13_units m (first ∷ digits) es h e =
    let found = some_if (are_digits 13 (first ∷ digits)) (halves (row parities first) digits) es e in
    ap (λ xs. units Ean13 (map (element_dots Ean13 m) xs)) (sym found.1)
    ∙ modular_units (1 * m) m (halves (row parities first) digits) (positive m h) (omega arith) ∙ ap (λ xs. Some xs) found.1

code39_units : (m : ℕ) (content es : List ℕ) → is_module m ≡ true → code39 content ≡ Some es → units Code39 (map (element_dots Code39 m) es) ≡ Some es
code39_units m content es h e =
    let found = some_if (is_code39_content content) (code39_elements content) es e in
    let all : List ℕ = code39_elements content in
    let first = first_of (two_widths m) 1 all (starts_append 1 code39_star (flat_map (λ t. 1 ∷ row code39_table t) (content ++ 0x2A ∷ [])) code39_starts) in
    ap (λ xs. units Code39 (map (element_dots Code39 m) xs)) (sym found.1)
    ∙ two_width_units (slice_index (map (two_widths m) all) 0) m all h (spaced_all is_width refl code39_table (0x2A ∷ content ++ 0x2A ∷ []) code39_widths) first
    ∙ ap (λ xs. Some xs) found.1

codabar_units : (m : ℕ) (content es : List ℕ) → is_module m ≡ true → codabar content ≡ Some es → units Codabar (map (element_dots Codabar m) es) ≡ Some es
codabar_units m [] es h e = absurd cc
codabar_units m (c ∷ cs) es h e =
    let found = some_if (is_content Codabar (c ∷ cs)) (spaced codabar_table (map upper (c ∷ cs))) es e in
    let parts = and_parts (has_length Codabar (length (c ∷ cs))) (all_from 0 (allows Codabar (length (c ∷ cs))) (c ∷ cs)) found.0 in
    let end = and_parts (is_codabar_end c) (all_from 1 (allows Codabar (length (c ∷ cs))) cs) parts.1 in
    let all : List ℕ = spaced codabar_table (map upper (c ∷ cs)) in
    let first = first_of (two_widths m) 1 all (starts_append 1 (row codabar_table (upper c)) (flat_map (λ t. 1 ∷ row codabar_table t) (map upper cs)) (codabar_starts c end.0)) in
    ap (λ xs. units Codabar (map (element_dots Codabar m) xs)) (sym found.1)
    ∙ two_width_units (slice_index (map (two_widths m) all) 0) m all h (spaced_all is_width refl codabar_table (map upper (c ∷ cs)) codabar_widths) first
    ∙ ap (λ xs. Some xs) found.1

itf_units : (m : ℕ) (content es : List ℕ) → is_module m ≡ true → itf content ≡ Some es → units Itf (map (element_dots Itf m) es) ≡ Some es
itf_units m content es h e =
    let found = some_if (is_itf_content content) (itf_start ++ (pairs content ++ itf_stop)) es e in
    ap (λ xs. units Itf (map (element_dots Itf m) xs)) (sym found.1)
    ∙ two_width_units m m (itf_start ++ (pairs content ++ itf_stop)) h (all_append is_width (pairs content) itf_stop (pairs_all is_width refl content itf_widths) refl) refl
    ∙ ap (λ xs. Some xs) found.1

upce_units : (m : ℕ) (content es : List ℕ) → is_module m ≡ true → upce content ≡ Some es → units UpcE (map (element_dots UpcE m) es) ≡ Some es
upce_units m content es h e =
    let all = if_there (list_all is_digit content) (given (upce_parts content) (λ p. Some (upce_elements p.0 p.1))) es e in
    let found = given_some (upce_parts content) (λ p. Some (upce_elements p.0 p.1)) es all.1 in
    let drawn : upce_elements found.0.0 found.0.1 ≡ es = cc in
    ap (λ xs. units UpcE (map (element_dots UpcE m) xs)) (sym drawn)
    ∙ modular_units (1 * m) m (upce_elements found.0.0 found.0.1) (positive m h) (omega arith) ∙ ap (λ xs. Some xs) drawn

code93_units : (m : ℕ) (content es : List ℕ) → is_module m ≡ true → code93 content ≡ Some es → units Code93 (map (element_dots Code93 m) es) ≡ Some es
code93_units m content es h e =
    let found = some_if (is_code93_content content) (code93_elements (code93_values content)) es e in
    let all : List ℕ = code93_elements (code93_values content) in
    let rest : List ℕ = flat_map (row code93_table) (with_both (code93_values content) ++ 47 ∷ []) in
    let first = first_of (λ k. k * m) 1 all (starts_append 1 (row code93_table 47 ++ rest) (1 ∷ []) (starts_append 1 (row code93_table 47) rest code93_starts)) in
    let one : slice_index (map (λ k. k * m) all) 0 ≡ m = omega arith in
    ap (λ xs. units Code93 (map (element_dots Code93 m) xs)) (sym found.1)
    ∙ modular_units (slice_index (map (λ k. k * m) all) 0) m all (positive m h) one ∙ ap (λ xs. Some xs) found.1

-- The first bar of CODE128 is two modules wide.
started_units : (m : ℕ) (said : List Character) (values : List ℕ) → is_module m ≡ true → started said ≡ Some values →
    whole_modules (slice_index (map (λ k. k * m) (code128_elements values)) 0 / 2) (map (λ k. k * m) (code128_elements values)) ≡ Some (code128_elements values)
started_units m said values h e =
    let begun = started_read said values e in
    let all : List ℕ = start_value begun.set ∷ begun.values in
    let pattern : List ℕ = row code128_table (start_value begun.set) in
    let rest : List ℕ = flat_map (row code128_table) (begun.values ++ check_value all ∷ 106 ∷ []) in
    let first = first_of (λ k. k * m) 2 (code128_elements all) (starts_append 2 (pattern ++ rest) (2 ∷ []) (starts_append 2 pattern rest (code128_starts begun.set))) in
    let half : slice_index (map (λ k. k * m) (code128_elements all)) 0 / 2 ≡ m = omega arith in
    subst (λ vs. whole_modules (slice_index (map (λ k. k * m) (code128_elements vs)) 0 / 2) (map (λ k. k * m) (code128_elements vs)) ≡ Some (code128_elements vs)) begun.all_are
    (modular_units (slice_index (map (λ k. k * m) (code128_elements all)) 0 / 2) m (code128_elements all) (positive m h) half)

code128_units : (m : ℕ) (content es : List ℕ) → is_module m ≡ true → code128 content ≡ Some es → units Code128 (map (element_dots Code128 m) es) ≡ Some es
code128_units m content es h e =
    let spelling = given_some (code128_values content) (λ values. Some (code128_elements values)) es e in
    let said = given_some (characters content) started spelling.0 spelling.1 in
    let drawn : code128_elements spelling.0 ≡ es = cc in
    ap (λ xs. units Code128 (map (element_dots Code128 m) xs)) (sym drawn) ∙ started_units m said.0 spelling.0 h said.2 ∙ ap (λ xs. Some xs) drawn

gs1_units : (m : ℕ) (content es : List ℕ) → is_module m ≡ true → gs1_128 content ≡ Some es → units Gs1Code128 (map (element_dots Gs1Code128 m) es) ≡ Some es
gs1_units m content es h e =
    let spelling = given_some (gs1_values content) (λ values. Some (code128_elements values)) es e in
    let parts = given_some (gs1_parts content) (λ found. started (gs1_characters (said found))) spelling.0 spelling.1 in
    let drawn : code128_elements spelling.0 ≡ es = cc in
    ap (λ xs. units Gs1Code128 (map (element_dots Gs1Code128 m) xs)) (sym drawn) ∙ started_units m (gs1_characters (said parts.0)) spelling.0 h parts.2 ∙ ap (λ xs. Some xs) drawn

pub elements_units : (symbology : Symbology) (m : ℕ) (content es : List ℕ) → is_module m ≡ true → elements symbology content ≡ Some es →
    units symbology (map (element_dots symbology m) es) ≡ Some es
elements_units UpcA m content es h e = upca_units m content es h e
elements_units UpcE m content es h e = upce_units m content es h e
elements_units Ean13 m content es h e = ean13_units m content es h e
elements_units Ean8 m content es h e = ean8_units m content es h e
elements_units Code39 m content es h e = code39_units m content es h e
elements_units Itf m content es h e = itf_units m content es h e
elements_units Codabar m content es h e = codabar_units m content es h e
elements_units Code93 m content es h e = code93_units m content es h e
elements_units Code128 m content es h e = code128_units m content es h e
elements_units Gs1Code128 m content es h e = gs1_units m content es h e
