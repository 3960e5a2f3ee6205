-- ITF is read back.
use Rattle.std.proofs.Common.{◌≡◌, ℕ, ◌+◌, List, [], ◌∷◌, ◌++◌, length, map, refl, sym, ap, ◌∙◌, arith, true, Bool, Some}
use Rattle.std.specs.Prelude.{◌==◌, ◌&&◌, ◌%◌, nat_le, flat_map}
use Rattle.std.specs.List.{list_all}
use Rattle.std.proofs.lemmas.Bool.{and_parts, and_from, eqb-true, eq-eqb}
use Rattle.escpos_command.specs.Barcodes.{is_digit}
use Rattle.escpos_barcode.specs.Chains.{given, joined}
use Rattle.escpos_barcode.specs.Elements.{interleaved, pairs, itf_start, itf_stop, is_itf_content, itf}
use Rattle.escpos_barcode.specs.Reader.{rows_before, bars, spaces, read_pairs, read_itf}
use Rattle.escpos_barcode.specs.Tables.{row, has_row, symbol_of, itf_rows, itf_digits}
use Rattle.escpos_barcode.proofs.Lookups.{some_if, is_readable, symbol_of_row, row_has, has_numbered, rows_to_end}
use Rattle.escpos_barcode.proofs.Rows.{digit_range}

itf_readable : is_readable itf_digits itf_digits ≡ true
unfolding itf_rows itf_digits
itf_readable = refl

itf_five : list_all (λ r. length r.1 == 5) itf_digits ≡ true
unfolding itf_rows itf_digits
itf_five = refl

itf_has : (d : ℕ) → is_digit d ≡ true → has_row itf_digits d ≡ true
unfolding itf_rows itf_digits
itf_has d h = let r = digit_range d h in has_numbered itf_rows 0x30 d r.0 (omega arith)

five : (d : ℕ) → is_digit d ≡ true → length (row itf_digits d) ≡ 5
five d h = eqb-true (length (row itf_digits d)) 5 (row_has (λ r. length r == 5) itf_digits d itf_five (itf_has d h))

-- Bars and spaces in turn come apart again.
bars_of : (xs ys : List ℕ) → length xs ≡ length ys → bars (interleaved xs ys) ≡ xs
bars_of [] ys e = refl
bars_of (x ∷ xs) [] e = absurd (omega arith)
bars_of (x ∷ xs) (y ∷ ys) e = ap (λ zs. x ∷ zs) (bars_of xs ys (omega arith))

bars_step : (y : ℕ) (es : List ℕ) → bars (y ∷ es) ≡ y ∷ spaces es
bars_step y [] = refl
bars_step y (b ∷ es) = refl

spaces_of : (xs ys : List ℕ) → length xs ≡ length ys → spaces (interleaved xs ys) ≡ ys
spaces_of [] [] e = refl
spaces_of [] (y ∷ ys) e = absurd (omega arith)
spaces_of (x ∷ xs) [] e = absurd (omega arith)
spaces_of (x ∷ xs) (y ∷ ys) e = bars_step y (interleaved xs ys) ∙ ap (λ zs. y ∷ zs) (spaces_of xs ys (omega arith))

interleaved_long : (xs ys : List ℕ) → length xs ≡ length ys → length (interleaved xs ys) ≡ length xs + length ys
interleaved_long [] [] e = refl
interleaved_long [] (y ∷ ys) e = absurd (omega arith)
interleaved_long (x ∷ xs) [] e = absurd (omega arith)
interleaved_long (x ∷ xs) (y ∷ ys) e = let more = interleaved_long xs ys (omega arith) in omega arith

-- ## Pairs

abbrev pair_row : ℕ × ℕ → List ℕ
pair_row p = interleaved (row itf_digits p.0) (row itf_digits p.1)

abbrev both_digits : ℕ × ℕ → Bool
both_digits p = is_digit p.0 && is_digit p.1

abbrev paired : List ℕ → List (ℕ × ℕ)
paired [] = []
paired (a ∷ []) = []
paired (a ∷ b ∷ bs) = (a, b) ∷ paired bs

abbrev unpaired : List (ℕ × ℕ) → List ℕ
unpaired [] = []
unpaired (p ∷ ps) = p.0 ∷ p.1 ∷ unpaired ps

pairs_flat : (bs : List ℕ) → pairs bs ≡ flat_map pair_row (paired bs)
pairs_flat [] = refl
pairs_flat (a ∷ []) = refl
pairs_flat (a ∷ b ∷ bs) = ap (λ e. interleaved (row itf_digits a) (row itf_digits b) ++ e) (pairs_flat bs)

paired_digits : (bs : List ℕ) → list_all is_digit bs ≡ true → list_all both_digits (paired bs) ≡ true
paired_digits [] h = refl
paired_digits (a ∷ []) h = refl
paired_digits (a ∷ b ∷ bs) h =
    let first = and_parts (is_digit a) (list_all is_digit (b ∷ bs)) h in
    let second = and_parts (is_digit b) (list_all is_digit bs) first.1 in
    and_from (is_digit a && is_digit b) (list_all both_digits (paired bs)) (and_from (is_digit a) (is_digit b) first.0 second.0) (paired_digits bs second.1)

unpaired_paired : (bs : List ℕ) → length bs % 2 ≡ 0 → unpaired (paired bs) ≡ bs
unpaired_paired [] e = refl
unpaired_paired (a ∷ []) e = absurd (omega arith)
unpaired_paired (a ∷ b ∷ bs) e = ap (λ xs. a ∷ b ∷ xs) (unpaired_paired bs (omega arith))

pairs_ten : (ps : List (ℕ × ℕ)) → list_all both_digits ps ≡ true → list_all (λ p. length (pair_row p) == 10) ps ≡ true
pairs_ten [] h = refl
pairs_ten (p ∷ ps) h =
    let parts = and_parts (both_digits p) (list_all both_digits ps) h in
    let digits = and_parts (is_digit p.0) (is_digit p.1) parts.0 in
    let first = five p.0 digits.0 in
    let second = five p.1 digits.1 in
    let long = interleaved_long (row itf_digits p.0) (row itf_digits p.1) (first ∙ sym second) in
    and_from (length (pair_row p) == 10) (list_all (λ q. length (pair_row q) == 10) ps) (eq-eqb (length (pair_row p)) 10 (omega arith)) (pairs_ten ps parts.1)

pairs_read : (ps : List (ℕ × ℕ)) → list_all both_digits ps ≡ true → read_pairs (map pair_row ps) ≡ Some (unpaired ps)
pairs_read [] h = refl
pairs_read (p ∷ ps) h =
    let parts = and_parts (both_digits p) (list_all both_digits ps) h in
    let digits = and_parts (is_digit p.0) (is_digit p.1) parts.0 in
    let even = five p.0 digits.0 ∙ sym (five p.1 digits.1) in
    let first = ap (symbol_of itf_digits) (bars_of (row itf_digits p.0) (row itf_digits p.1) even) ∙ symbol_of_row itf_digits itf_digits p.0 itf_readable (itf_has p.0 digits.0) in
    let second = ap (symbol_of itf_digits) (spaces_of (row itf_digits p.0) (row itf_digits p.1) even) ∙ symbol_of_row itf_digits itf_digits p.1 itf_readable (itf_has p.1 digits.1) in
    ap (λ o. given o (λ a. given (symbol_of itf_digits (spaces (pair_row p))) (λ b. joined (a ∷ b ∷ []) (read_pairs (map pair_row ps))))) first
    ∙ ap (λ o. given o (λ b. joined (p.0 ∷ b ∷ []) (read_pairs (map pair_row ps)))) second
    ∙ ap (λ o. joined (p.0 ∷ p.1 ∷ []) o) (pairs_read ps parts.1)

pub itf_read : (content es : List ℕ) → itf content ≡ Some es → read_itf es ≡ Some content
itf_read content es e =
    let found = some_if (is_itf_content content) (itf_start ++ (pairs content ++ itf_stop)) es e in
    let parts = and_parts (nat_le 2 (length content) && length content % 2 == 0) (list_all is_digit content) found.0 in
    let counts = and_parts (nat_le 2 (length content)) (length content % 2 == 0) parts.0 in
    let digits = paired_digits content parts.1 in
    ap read_itf (sym found.1)
    ∙ ap (λ xs. given (rows_before itf_stop 10 (xs ++ itf_stop)) read_pairs) (pairs_flat content)
    ∙ ap (λ o. given o read_pairs) (rows_to_end pair_row 10 (paired content) itf_stop (omega arith) (pairs_ten (paired content) digits))
    ∙ pairs_read (paired content) digits
    ∙ ap (λ xs. Some xs) (unpaired_paired content (eqb-true (length content % 2) 0 counts.1))
