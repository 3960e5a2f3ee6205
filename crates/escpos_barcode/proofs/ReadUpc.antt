-- UPC-A, UPC-E, EAN-13 and EAN-8 are read back.
use Rattle.std.proofs.Common.{◌≡◌, ℕ, zero, suc, ◌+◌, ◌-◌, ◌*◌, ◌<◌, inl, inr, subst, List, [], ◌∷◌, ◌++◌, length, map, take, drop, refl, sym, ap, ◌∙◌, arith, true, Bool, Option, Some, None, length-take, length-drop}
use Rattle.std.specs.Prelude.{◌==◌, ◌&&◌, ◌/◌, ◌%◌, nat_lt, nat_eq, flat_map, replicate, slice_index, if◌then◌else◌}
use Rattle.std.specs.Cmp.Lexicographic.{pointwise}
use Rattle.std.specs.List.{list_all}
use Rattle.std.proofs.lemmas.Bool.{and_parts, and_from, eqb-true, eq-eqb, ltb-true}
use Rattle.std.proofs.lemmas.List.{take-append-drop}
use Rattle.escpos_command.specs.Barcodes.{is_digit}
use Rattle.escpos_paper.specs.CheckDigit.{expanded}
use Rattle.escpos_barcode.specs.Chains.{given}
use Rattle.escpos_barcode.specs.Elements.{is_set, guard, centre, in_sets, halves, are_digits, upca, ean8, ean13, picked, shorter, first_for, shortened, upce_parts, short_form, upce_end, upce_elements, upce}
use Rattle.escpos_barcode.specs.Reader.{first_rows, symbols, read_halves, read_upc, read_upce, read_ean13, set_of, digit_of}
use Rattle.escpos_barcode.specs.Tables.{row, has_row, same, symbol_of, set_a, set_b, left_digits, right_digits, parity_rows, parities, upce_parity_rows, upce_parities}
use Rattle.escpos_barcode.proofs.Lookups.{some_if, if_some, if_there, given_some, is_readable, symbol_of_row, symbols_of_rows, row_has, has_numbered, same_self, all_by, all_append, all_cut, map_long, cut_rows, past_rows, rows_to_end}
use Rattle.escpos_barcode.proofs.Rows.{digit_range}

-- ## The tables

left_readable : is_readable left_digits left_digits ≡ true
unfolding set_a set_b left_digits
left_readable = refl

left_four : list_all (λ r. length r.1 == 4) left_digits ≡ true
unfolding set_a set_b left_digits
left_four = refl

right_readable : is_readable right_digits right_digits ≡ true
unfolding set_a right_digits
right_readable = refl

right_four : list_all (λ r. length r.1 == 4) right_digits ≡ true
unfolding set_a right_digits
right_four = refl

parities_readable : is_readable parities parities ≡ true
unfolding parity_rows parities
parities_readable = refl

parities_six : list_all (λ r. length r.1 == 6) parities ≡ true
unfolding parity_rows parities
parities_six = refl

parities_sets : list_all (λ r. list_all is_set r.1) parities ≡ true
unfolding parity_rows parities
parities_sets = refl

upce_readable : is_readable upce_parities upce_parities ≡ true
unfolding upce_parity_rows upce_parities
upce_readable = refl

upce_six : list_all (λ r. length r.1 == 6) upce_parities ≡ true
unfolding upce_parity_rows upce_parities
upce_six = refl

upce_sets : list_all (λ r. list_all is_set r.1) upce_parities ≡ true
unfolding upce_parity_rows upce_parities
upce_sets = refl

upce_have : (d : ℕ) → is_digit d ≡ true → has_row upce_parities d ≡ true
unfolding upce_parity_rows upce_parities
upce_have d h = let r = digit_range d h in has_numbered upce_parity_rows 0x30 d r.0 (omega arith)

left_has : (v : ℕ) → v < 20 → has_row left_digits v ≡ true
unfolding set_a set_b left_digits
left_has v h = has_numbered (set_a ++ set_b) 0 v (omega arith) (omega arith)

right_has : (d : ℕ) → is_digit d ≡ true → has_row right_digits d ≡ true
unfolding set_a right_digits
right_has d h = let r = digit_range d h in has_numbered set_a 0x30 d r.0 (omega arith)

parities_have : (d : ℕ) → is_digit d ≡ true → has_row parities d ≡ true
unfolding parity_rows parities
parities_have d h = let r = digit_range d h in has_numbered parity_rows 0x30 d r.0 (omega arith)

-- ## The left half

record InSets (sets digits : List ℕ) : Type 0 where
  rows : list_all (has_row left_digits) (in_sets sets digits) ≡ true
  sets_are : map set_of (in_sets sets digits) ≡ sets
  digits_are : map digit_of (in_sets sets digits) ≡ digits
  long : length (in_sets sets digits) ≡ length sets

in_sets_read : (sets digits : List ℕ) → length sets ≡ length digits → list_all is_set sets ≡ true → list_all is_digit digits ≡ true → InSets sets digits
in_sets_read [] [] e h k = record { rows = refl; sets_are = refl; digits_are = refl; long = refl }
in_sets_read [] (d ∷ ds) e h k = absurd (omega arith)
in_sets_read (p ∷ ps) [] e h k = absurd (omega arith)
in_sets_read (p ∷ ps) (d ∷ ds) e h k =
    let here = and_parts (is_set p) (list_all is_set ps) h in
    let digit = and_parts (is_digit d) (list_all is_digit ds) k in
    let small = ltb-true p 2 here.0 in
    let range = digit_range d digit.0 in
    let more = in_sets_read ps ds (omega arith) here.1 digit.1 in
    let set : (10 * p + (d - 0x30)) / 10 ≡ p = omega arith in
    let number : 0x30 + (10 * p + (d - 0x30)) % 10 ≡ d = omega arith in
    record {
      rows = and_from (has_row left_digits (10 * p + (d - 0x30))) (list_all (has_row left_digits) (in_sets ps ds)) (left_has (10 * p + (d - 0x30)) (omega arith)) more.rows;
      sets_are = ap (λ x. x ∷ map set_of (in_sets ps ds)) set ∙ ap (λ xs. p ∷ xs) more.sets_are;
      digits_are = ap (λ x. x ∷ map digit_of (in_sets ps ds)) number ∙ ap (λ xs. d ∷ xs) more.digits_are;
      long = let one = more.long in omega arith;
    }

-- ## Both halves

halves_read : (sets digits : List ℕ) → length digits ≡ length sets + length sets → list_all is_set sets ≡ true → list_all is_digit digits ≡ true →
    read_halves (length sets) (halves sets digits) ≡ Some (in_sets sets (take (length sets) digits), drop (length sets) digits)
halves_read sets digits e h k =
    let parts = all_cut is_digit (length sets) digits k in
    let front : length (take (length sets) digits) ≡ length sets = omega (arith, length-take (length sets) digits) in
    let left = in_sets_read sets (take (length sets) digits) (sym front) h parts.0 in
    let vs : List ℕ = in_sets sets (take (length sets) digits) in
    let ds : List ℕ = drop (length sets) digits in
    let more : List ℕ = centre ++ (flat_map (row right_digits) ds ++ guard) in
    let vs_four = all_by (has_row left_digits) (λ v. length (row left_digits v) == 4) vs (λ v. row_has (λ r. length r == 4) left_digits v left_four) left.rows in
    let ds_have = all_by is_digit (has_row right_digits) ds right_has parts.1 in
    let ds_four = all_by (has_row right_digits) (λ d. length (row right_digits d) == 4) ds (λ d. row_has (λ r. length r == 4) right_digits d right_four) ds_have in
    let cut : first_rows (length sets) 4 (flat_map (row left_digits) vs ++ more) ≡ map (row left_digits) vs
    = ap (λ n. first_rows n 4 (flat_map (row left_digits) vs ++ more)) (sym left.long) ∙ cut_rows (row left_digits) 4 vs more vs_four in
    let past : drop (4 * length sets) (flat_map (row left_digits) vs ++ more) ≡ more
    = ap (λ n. drop (4 * n) (flat_map (row left_digits) vs ++ more)) (sym left.long) ∙ past_rows (row left_digits) 4 vs more vs_four in
    let left_read = symbols_of_rows left_digits left_digits vs left_readable left.rows in
    let right_cut = rows_to_end (row right_digits) 4 ds guard (omega arith) ds_four in
    let back : length (map (row right_digits) ds) ≡ length sets = map_long (row right_digits) ds ∙ omega (arith, length-drop (length sets) digits) in
    let count = eq-eqb (length (map (row right_digits) ds)) (length sets) back in
    let right_read = symbols_of_rows right_digits right_digits ds right_readable ds_have in
    rw (cut, left_read, past, right_cut, count, right_read) refl

-- ## The three symbologies

upc_read : (sets content : List ℕ) → replicate (length sets) 0 ≡ sets → length content ≡ length sets + length sets → list_all is_set sets ≡ true →
    list_all is_digit content ≡ true → read_upc (length sets) (halves sets content) ≡ Some content
upc_read sets content z n h k =
    let parts = all_cut is_digit (length sets) content k in
    let front : length (take (length sets) content) ≡ length sets = omega (arith, length-take (length sets) content) in
    let left = in_sets_read sets (take (length sets) content) (sym front) h parts.0 in
    let vs : List ℕ = in_sets sets (take (length sets) content) in
    let ds : List ℕ = drop (length sets) content in
    let whole : List ℕ = map digit_of vs ++ ds in
    ap (λ o. given o (λ r. if same (map set_of r.0) (replicate (length sets) 0) then Some (map digit_of r.0 ++ r.1) else None)) (halves_read sets content n h k)
    ∙ ap (λ xs. if same xs (replicate (length sets) 0) then Some whole else None) (left.sets_are ∙ sym z)
    ∙ ap (λ (b : Bool). if b then Some whole else None) (same_self (replicate (length sets) 0))
    ∙ ap (λ xs. Some (xs ++ ds)) left.digits_are ∙ ap (λ xs. Some xs) (take-append-drop (length sets) content)

pub upca_read : (content es : List ℕ) → upca content ≡ Some es → read_upc 6 es ≡ Some content
upca_read content es e =
    let found = some_if (are_digits 12 content) (halves (replicate 6 0) content) es e in
    let parts = and_parts (length content == 12) (list_all is_digit content) found.0 in
    ap (read_upc 6) (sym found.1) ∙ upc_read (replicate 6 0) content refl (eqb-true (length content) 12 parts.0) refl parts.1

pub ean8_read : (content es : List ℕ) → ean8 content ≡ Some es → read_upc 4 es ≡ Some content
ean8_read content es e =
    let found = some_if (are_digits 8 content) (halves (replicate 4 0) content) es e in
    let parts = and_parts (length content == 8) (list_all is_digit content) found.0 in
    ap (read_upc 4) (sym found.1) ∙ upc_read (replicate 4 0) content refl (eqb-true (length content) 8 parts.0) refl parts.1

pub ean13_read : (content es : List ℕ) → ean13 content ≡ Some es → read_ean13 es ≡ Some content
ean13_read [] es e = absurd cc
ean13_read (first ∷ digits) es e =
    let found = some_if (are_digits 13 (first ∷ digits)) (halves (row parities first) digits) es e in
    let parts = and_parts (length (first ∷ digits) == 13) (list_all is_digit (first ∷ digits)) found.0 in
    let long = eqb-true (length (first ∷ digits)) 13 parts.0 in
    let each = and_parts (is_digit first) (list_all is_digit digits) parts.1 in
    let sets : List ℕ = row parities first in
    let has = parities_have first each.0 in
    let six = eqb-true (length sets) 6 (row_has (λ r. length r == 6) parities first parities_six has) in
    let are_sets = row_has (list_all is_set) parities first parities_sets has in
    let both : length digits ≡ length sets + length sets = omega arith in
    let cut = all_cut is_digit (length sets) digits each.1 in
    let front : length (take (length sets) digits) ≡ length sets = omega (arith, length-take (length sets) digits) in
    let left = in_sets_read sets (take (length sets) digits) (sym front) are_sets cut.0 in
    let vs : List ℕ = in_sets sets (take (length sets) digits) in
    let ds : List ℕ = drop (length sets) digits in
    let next : List ℕ × List ℕ → Option (List ℕ) = λ r. given (symbol_of parities (map set_of r.0)) (λ d. Some (d ∷ map digit_of r.0 ++ r.1)) in
    ap read_ean13 (sym found.1)
    ∙ ap (λ n. given (read_halves n (halves sets digits)) next) (sym six) ∙ ap (λ o. given o next) (halves_read sets digits both are_sets each.1)
    ∙ ap (λ xs. given (symbol_of parities xs) (λ d. Some (d ∷ map digit_of vs ++ ds))) left.sets_are
    ∙ ap (λ o. given o (λ d. Some (d ∷ map digit_of vs ++ ds))) (symbol_of_row parities parities first parities_readable has)
    ∙ ap (λ xs. Some (first ∷ xs ++ ds)) left.digits_are ∙ ap (λ xs. Some (first ∷ xs)) (take-append-drop (length sets) digits)

-- ## UPC-E

digit_at : (bs : List ℕ) (i : ℕ) → list_all is_digit bs ≡ true → i < length bs → is_digit (slice_index bs i) ≡ true
digit_at [] i h k = absurd (omega arith)
digit_at (b ∷ bs) zero h k = (and_parts (is_digit b) (list_all is_digit bs) h).0
digit_at (b ∷ bs) (suc i) h k = digit_at bs i (and_parts (is_digit b) (list_all is_digit bs) h).1 (omega arith)

picked_digits : (bs places : List ℕ) → list_all is_digit bs ≡ true → list_all (λ i. nat_lt i (length bs)) places ≡ true → list_all is_digit (picked bs places) ≡ true
picked_digits bs [] h k = refl
picked_digits bs (i ∷ is) h k =
    let parts = and_parts (nat_lt i (length bs)) (list_all (λ j. nat_lt j (length bs)) is) k in
    and_from (is_digit (slice_index bs i)) (list_all is_digit (picked bs is)) (digit_at bs i h (ltb-true i (length bs) parts.0)) (picked_digits bs is h parts.1)

abbrev pub six_digits : List ℕ → Bool
six_digits six = list_all is_digit six && length six == 6

-- Each way to leave zeros out leaves six digits.
shorter_digits : (bs : List ℕ) → length bs ≡ 11 → list_all is_digit bs ≡ true → list_all six_digits (shorter bs) ≡ true
shorter_digits bs n h =
    let at : (places : List ℕ) → list_all (λ i. nat_lt i 11) places ≡ true → list_all is_digit (picked bs places) ≡ true
    = λ places k. picked_digits bs places h (ap (λ m. list_all (λ i. nat_lt i m) places) n ∙ k) in
    let first = at (1 ∷ 2 ∷ 8 ∷ 9 ∷ 10 ∷ 3 ∷ []) refl in
    let second = all_append is_digit (picked bs (1 ∷ 2 ∷ 3 ∷ 9 ∷ 10 ∷ [])) (0x33 ∷ []) (at (1 ∷ 2 ∷ 3 ∷ 9 ∷ 10 ∷ []) refl) refl in
    let third = all_append is_digit (picked bs (1 ∷ 2 ∷ 3 ∷ 4 ∷ 10 ∷ [])) (0x34 ∷ []) (at (1 ∷ 2 ∷ 3 ∷ 4 ∷ 10 ∷ []) refl) refl in
    let fourth = at (1 ∷ 2 ∷ 3 ∷ 4 ∷ 5 ∷ 10 ∷ []) refl in
    rw (first, second, third, fourth) refl

first_is : (digits : List ℕ) (sixes : List (List ℕ)) (six : List ℕ) → list_all six_digits sixes ≡ true → first_for digits sixes ≡ Some six → six_digits six ≡ true
first_is digits [] six h e = absurd cc
first_is digits (s ∷ ss) six h e =
    let parts = and_parts (six_digits s) (list_all six_digits ss) h in
    elim (if_some (pointwise nat_eq (expanded s) digits) s six (first_for digits ss) e) [
      | inl t ↦ ap six_digits (sym t.1) ∙ parts.0
      | inr t ↦ first_is digits ss six parts.1 t.1
    ]

pub record AreParts (six : List ℕ) (check : ℕ) : Type 0 where
  pub digits : list_all is_digit six ≡ true
  pub long : length six ≡ 6
  pub check_digit : is_digit check ≡ true

of_twelve : (content : List ℕ) (p : List ℕ × ℕ) → length content ≡ 12 → list_all is_digit content ≡ true →
    given (shortened (take 11 content)) (λ six. Some (six, slice_index content 11)) ≡ Some p → AreParts p.0 p.1
of_twelve content p n h e =
    let found = given_some (shortened (take 11 content)) (λ six. Some (six, slice_index content 11)) p e in
    let front : length (take 11 content) ≡ 11 = omega (arith, length-take 11 content) in
    let six = first_is (take 11 content) (shorter (take 11 content)) found.0 (shorter_digits (take 11 content) front (all_cut is_digit 11 content h).0) found.1 in
    let parts = and_parts (list_all is_digit found.0) (length found.0 == 6) six in
    let same_parts : (found.0, slice_index content 11) ≡ p = cc in
    subst (λ q. AreParts q.0 q.1) same_parts (record { digits = parts.0; long = eqb-true (length found.0) 6 parts.1; check_digit = digit_at content 11 h (omega arith) })

pub parts_are : (content : List ℕ) (p : List ℕ × ℕ) → list_all is_digit content ≡ true → upce_parts content ≡ Some p → AreParts p.0 p.1
parts_are content p h e = elim (if_some (length content == 7) (picked content (0 ∷ 1 ∷ 2 ∷ 3 ∷ 4 ∷ 5 ∷ []), slice_index content 6) p _ e) [
  | inl t ↦
      let n = eqb-true (length content) 7 t.0 in
      subst (λ q. AreParts q.0 q.1) t.1 (record {
        digits = picked_digits content (0 ∷ 1 ∷ 2 ∷ 3 ∷ 4 ∷ 5 ∷ []) h (ap (λ m. list_all (λ i. nat_lt i m) (0 ∷ 1 ∷ 2 ∷ 3 ∷ 4 ∷ 5 ∷ [])) n);
        long = refl;
        check_digit = digit_at content 6 h (omega arith);
      })
  | inr u ↦
      elim (if_some (length content == 8 && slice_index content 0 == 0x30) (picked content (1 ∷ 2 ∷ 3 ∷ 4 ∷ 5 ∷ 6 ∷ []), slice_index content 7) p _ u.1) [
        | inl t ↦
            let n = eqb-true (length content) 8 (and_parts (length content == 8) (slice_index content 0 == 0x30) t.0).0 in
            subst (λ q. AreParts q.0 q.1) t.1 (record {
              digits = picked_digits content (1 ∷ 2 ∷ 3 ∷ 4 ∷ 5 ∷ 6 ∷ []) h (ap (λ m. list_all (λ i. nat_lt i m) (1 ∷ 2 ∷ 3 ∷ 4 ∷ 5 ∷ 6 ∷ [])) n);
              long = refl;
              check_digit = digit_at content 7 h (omega arith);
            })
        | inr v ↦
            let t = if_there (length content == 12) (given (shortened (take 11 content)) (λ six. Some (six, slice_index content 11))) p v.1 in
            of_twelve content p (eqb-true (length content) 12 t.0) h t.1
      ]
]

six_read : (six : List ℕ) (check : ℕ) → AreParts six check → read_upce (upce_elements six check) ≡ Some (0x30 ∷ six ++ check ∷ [])
six_read six check are =
    let has = upce_have check are.check_digit in
    let sets : List ℕ = row upce_parities check in
    let count = eqb-true (length sets) 6 (row_has (λ r. length r == 6) upce_parities check upce_six has) in
    let are_sets = row_has (list_all is_set) upce_parities check upce_sets has in
    let left = in_sets_read sets six (count ∙ sym are.long) are_sets are.digits in
    let vs : List ℕ = in_sets sets six in
    let all : List ℕ = flat_map (row left_digits) vs ++ upce_end in
    let six_symbols : length vs ≡ 6 = left.long ∙ count in
    let vs_four = all_by (has_row left_digits) (λ v. length (row left_digits v) == 4) vs (λ v. row_has (λ r. length r == 4) left_digits v left_four) left.rows in
    let cut : first_rows 6 4 all ≡ map (row left_digits) vs = ap (λ n. first_rows n 4 all) (sym six_symbols) ∙ cut_rows (row left_digits) 4 vs upce_end vs_four in
    let past : drop 24 all ≡ upce_end = ap (λ n. drop (4 * n) all) (sym six_symbols) ∙ past_rows (row left_digits) 4 vs upce_end vs_four in
    let left_read = symbols_of_rows left_digits left_digits vs left_readable left.rows in
    let check_read = symbol_of_row upce_parities upce_parities check upce_readable has in
    let told : List ℕ → List ℕ → Option (List ℕ) = λ rest xs. if same rest upce_end then given (symbol_of upce_parities (map set_of xs)) (λ d. Some (0x30 ∷ map digit_of xs ++ d ∷ [])) else None in
    ap (λ rows. given (symbols left_digits rows) (told (drop 24 all))) cut
    ∙ ap (λ o. given o (told (drop 24 all))) left_read
    ∙ ap (λ rest. told rest vs) past
    ∙ ap (λ xs. given (symbol_of upce_parities xs) (λ d. Some (0x30 ∷ map digit_of vs ++ d ∷ []))) left.sets_are
    ∙ ap (λ o. given o (λ d. Some (0x30 ∷ map digit_of vs ++ d ∷ []))) check_read
    ∙ ap (λ xs. Some (0x30 ∷ xs ++ check ∷ [])) left.digits_are

pub upce_read : (content es : List ℕ) → upce content ≡ Some es → read_upce es ≡ Some (short_form content (upce_parts content))
upce_read content es e =
    let all = if_there (list_all is_digit content) (given (upce_parts content) (λ p. Some (upce_elements p.0 p.1))) es e in
    let found = given_some (upce_parts content) (λ p. Some (upce_elements p.0 p.1)) es all.1 in
    let drawn : upce_elements found.0.0 found.0.1 ≡ es = cc in
    ap read_upce (sym drawn) ∙ six_read found.0.0 found.0.1 (parts_are content found.0 all.0 found.1)
    ∙ ap (λ o. Some (short_form content o)) (sym found.1)
