-- CODE93 is read back.
use Rattle.std.proofs.Common.{◌≡◌, ℕ, ◌<◌, List, [], ◌∷◌, ◌++◌, length, refl, sym, ap, ◌∙◌, arith, true, false, Bool, Option, Some, None}
use Rattle.std.specs.Prelude.{◌==◌, ◌&&◌, nat_le, nat_lt, not, if◌then◌else◌}
use Rattle.std.specs.List.{list_all}
use Rattle.std.proofs.lemmas.Bool.{and_parts, and_from, eq-eqb, ltb-true, agree_below, agree_below_at}
use Rattle.escpos_barcode.specs.Chains.{given, joined}
use Rattle.escpos_barcode.specs.Code93.{byte_values, code93_values, is_code93_content, check_character, with_first, with_both}
use Rattle.escpos_barcode.specs.Elements.{code93_elements, code93}
use Rattle.escpos_barcode.specs.Reader.{symbols, after, last_off, ascii, read_bytes, before_check, read_code93}
use Rattle.escpos_barcode.specs.Tables.{row, has_row, symbol_of, code93_rows, code93_table}
use Rattle.escpos_barcode.proofs.Lookups.{some_if, finds, found, is_readable, symbols_of_rows, row_has, has_numbered, all_by, all_append, rows_to_end}
use Rattle.escpos_barcode.proofs.ReadSpaced.{last_of}

code93_readable : is_readable code93_table code93_table ≡ true
unfolding code93_rows code93_table
code93_readable = refl

code93_six : list_all (λ r. length r.1 == 6) code93_table ≡ true
unfolding code93_rows code93_table
code93_six = refl

code93_has : (v : ℕ) → v < 48 → has_row code93_table v ≡ true
unfolding code93_rows code93_table
code93_has v h = has_numbered code93_rows 0 v (omega arith) (omega arith)

-- ## Bytes and their values

-- The values of a byte are read as the byte: one below 43, or two from 43 on.
abbrev reads_as : ℕ → List ℕ → Bool
reads_as b [] = false
reads_as b (v ∷ []) = nat_lt v 43 && finds (symbol_of ascii (v ∷ [])) b
reads_as b (s ∷ v ∷ []) = not (nat_lt s 43) && finds (symbol_of ascii (s ∷ v ∷ [])) b
reads_as b (s ∷ v ∷ w ∷ ws) = false

abbrev byte_is_read : ℕ → Bool
byte_is_read b = reads_as b (byte_values b) && list_all (λ v. nat_lt v 48) (byte_values b)

-- Computed over all bytes.
bytes_are_read : agree_below byte_is_read (λ b. true) 128 ≡ true
unfolding ascii
bytes_are_read = refl

byte_read : (b : ℕ) → nat_lt b 0x80 ≡ true → (reads_as b (byte_values b) ≡ true) × (list_all (λ v. nat_lt v 48) (byte_values b) ≡ true)
byte_read b h =
    and_parts (reads_as b (byte_values b)) (list_all (λ v. nat_lt v 48) (byte_values b))
    (agree_below_at byte_is_read (λ c. true) 128 b bytes_are_read (ltb-true b 0x80 h))

not_false : (t : Bool) → not t ≡ true → t ≡ false
not_false true h = absurd cc
not_false false h = refl

one_read : (b : ℕ) (xs vs : List ℕ) → reads_as b xs ≡ true → read_bytes None (xs ++ vs) ≡ joined (b ∷ []) (read_bytes None vs)
one_read b [] vs h = absurd cc
one_read b (v ∷ []) vs h =
    let parts = and_parts (nat_lt v 43) (finds (symbol_of ascii (v ∷ [])) b) h in
    ap (λ (t : Bool). if t then given (symbol_of ascii (v ∷ [])) (λ c. joined (c ∷ []) (read_bytes None vs)) else read_bytes (Some v) vs) parts.0
    ∙ ap (λ o. given o (λ c. joined (c ∷ []) (read_bytes None vs))) (found (symbol_of ascii (v ∷ [])) b parts.1)
one_read b (s ∷ v ∷ []) vs h =
    let parts = and_parts (not (nat_lt s 43)) (finds (symbol_of ascii (s ∷ v ∷ [])) b) h in
    ap (λ (t : Bool). if t then given (symbol_of ascii (s ∷ [])) (λ c. joined (c ∷ []) (read_bytes None (v ∷ vs))) else read_bytes (Some s) (v ∷ vs)) (not_false (nat_lt s 43) parts.0)
    ∙ ap (λ o. given o (λ c. joined (c ∷ []) (read_bytes None vs))) (found (symbol_of ascii (s ∷ v ∷ [])) b parts.1)
one_read b (s ∷ v ∷ w ∷ ws) vs h = absurd cc

bytes_read : (content : List ℕ) → list_all (λ b. nat_lt b 0x80) content ≡ true → read_bytes None (code93_values content) ≡ Some content
bytes_read [] h = refl
bytes_read (b ∷ bs) h =
    let parts = and_parts (nat_lt b 0x80) (list_all (λ c. nat_lt c 0x80) bs) h in
    one_read b (byte_values b) (code93_values bs) (byte_read b parts.0).0 ∙ ap (λ o. joined (b ∷ []) o) (bytes_read bs parts.1)

values_small : (content : List ℕ) → list_all (λ b. nat_lt b 0x80) content ≡ true → list_all (λ v. nat_lt v 48) (code93_values content) ≡ true
values_small [] h = refl
values_small (b ∷ bs) h =
    let parts = and_parts (nat_lt b 0x80) (list_all (λ c. nat_lt c 0x80) bs) h in
    all_append (λ v. nat_lt v 48) (byte_values b) (code93_values bs) (byte_read b parts.0).1 (values_small bs parts.1)

-- ## The check characters

check_has : (most : ℕ) (values : List ℕ) → has_row code93_table (check_character most values) ≡ true
check_has most values = code93_has (check_character most values) (omega arith)

check_read : (most : ℕ) (values : List ℕ) → before_check most (values ++ check_character most values ∷ []) ≡ Some values
check_read most values =
    ap (λ o. given o (λ r. if r.1 == check_character most r.0 then Some r.0 else None)) (last_of values (check_character most values))
    ∙ ap (λ (t : Bool). if t then Some values else None) (eq-eqb (check_character most values) (check_character most values) refl)

-- ## The whole

abbrev ended : List ℕ × ℕ → Option (List ℕ)
ended stop = if stop.1 == 47 then given (before_check 15 stop.0) (λ first. given (before_check 20 first) (read_bytes None)) else None

pub code93_read : (content es : List ℕ) → code93 content ≡ Some es → read_code93 es ≡ Some content
code93_read content es e =
    let shown = some_if (is_code93_content content) (code93_elements (code93_values content)) es e in
    let parts = and_parts (nat_le 1 (length content)) (list_all (λ b. nat_lt b 0x80) content) shown.0 in
    let values : List ℕ = code93_values content in
    let some : list_all (has_row code93_table) values ≡ true =
    all_by (λ v. nat_lt v 48) (has_row code93_table) values (λ v h. code93_has v (ltb-true v 48 h)) (values_small content parts.1) in
    let one = all_append (has_row code93_table) values (check_character 20 values ∷ []) some (and_from (has_row code93_table (check_character 20 values)) true (check_has 20 values) refl) in
    let both =
    all_append (has_row code93_table) (with_first values) (check_character 15 (with_first values) ∷ []) one
    (and_from (has_row code93_table (check_character 15 (with_first values))) true (check_has 15 (with_first values)) refl) in
    let end = and_from (has_row code93_table 47) true (code93_has 47 (omega arith)) refl in
    let have = and_from (has_row code93_table 47) (list_all (has_row code93_table) (with_both values ++ 47 ∷ [])) (code93_has 47 (omega arith))
    (all_append (has_row code93_table) (with_both values) (47 ∷ []) both end) in
    let all : List ℕ = 47 ∷ with_both values ++ 47 ∷ [] in
    let six = all_by (has_row code93_table) (λ v. length (row code93_table v) == 6) all (λ v. row_has (λ r. length r == 6) code93_table v code93_six) have in
    ap read_code93 (sym shown.1)
    ∙ ap (λ o. given o (λ rows. given (symbols code93_table rows) (λ found. given (after (47 ∷ []) found) (λ more. given (last_off more) ended)))) (rows_to_end (row code93_table) 6 all (1 ∷ []) (omega arith) six)
    ∙ ap (λ o. given o (λ found. given (after (47 ∷ []) found) (λ more. given (last_off more) ended))) (symbols_of_rows code93_table code93_table all code93_readable have)
    ∙ ap (λ o. given o ended) (last_of (with_both values) 47)
    ∙ ap (λ o. given o (λ first. given (before_check 20 first) (read_bytes None))) (check_read 15 (with_first values))
    ∙ ap (λ o. given o (read_bytes None)) (check_read 20 values)
    ∙ bytes_read content parts.1
