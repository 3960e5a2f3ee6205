-- CODE39 and CODABAR are read back.
use Rattle.std.proofs.Common.{◌≡◌, ℕ, ◌+◌, ◌*◌, ◌<◌, inl, inr, List, [], ◌∷◌, ◌++◌, length, map, refl, sym, ap, ◌∙◌, arith, true, false, Bool, Some, None, append-nil}
use Rattle.std.specs.Prelude.{◌==◌, ◌&&◌, ◌||◌, ◌%◌, nat_le, not, flat_map, if◌then◌else◌}
use Rattle.std.specs.List.{list_all}
use Rattle.std.proofs.lemmas.Bool.{and_parts, and_from, eqb-true, eq-eqb, leb-true, or_right, or_cases, false≢true, agree_below, agree_below_at}
use Rattle.std.proofs.lemmas.Bool.Decides.{eqb_tells}
use Rattle.escpos_command.specs.Barcodes.{is_codabar, is_codabar_end, is_content, has_length, allows, all_from}
use Rattle.escpos_command.specs.declared.bars.Symbology.TheVariants.{Codabar}
use Rattle.escpos_barcode.specs.Chains.{given}
use Rattle.escpos_barcode.specs.Elements.{spaced, is_code39_content, code39_elements, code39, upper, codabar}
use Rattle.escpos_barcode.specs.Reader.{symbols, rows_before, after, last_off, without_space, read_spaced, read_code39, read_codabar}
use Rattle.escpos_barcode.specs.Tables.{row, has_row, code39_data, code39_star, code39_table, codabar_table}
use Rattle.escpos_barcode.proofs.Lookups.{some_if, is_readable, symbols_of_rows, row_has, all_by, all_append, map_long, rows_long, rows_to_end}
use Rattle.escpos_barcode.proofs.Rows.{digit_range}

-- ## Patterns with narrow spaces between them

bare : (table : List (ℕ × List ℕ)) (ss : List ℕ) → map without_space (map (λ t. 1 ∷ row table t) ss) ≡ map (row table) ss
bare table [] = refl
bare table (s ∷ ss) = ap (λ rs. row table s ∷ rs) (bare table ss)

-- With a space before it each pattern is one element longer.
spaced_long : (table : List (ℕ × List ℕ)) (n : ℕ) (ss : List ℕ) → list_all (λ r. length r.1 == n) table ≡ true → list_all (has_row table) ss ≡ true →
    list_all (λ t. length (1 ∷ row table t) == n + 1) ss ≡ true
spaced_long table n ss long have =
    all_by (has_row table) (λ t. length (1 ∷ row table t) == n + 1) ss
    (λ t h. let e = eqb-true (length (row table t)) n (row_has (λ r. length r == n) table t long h) in eq-eqb (length (1 ∷ row table t)) (n + 1) (omega arith)) have

-- The elements and a space before them are as many as those of all the patterns with their spaces.
spaced_count : (table : List (ℕ × List ℕ)) (n s : ℕ) (ss : List ℕ) → list_all (λ r. length r.1 == n) table ≡ true → list_all (has_row table) (s ∷ ss) ≡ true →
    length (spaced table (s ∷ ss)) + 1 ≡ (n + 1) * length (s ∷ ss)
spaced_count table n s ss long have =
    let all = rows_long (λ t. 1 ∷ row table t) (n + 1) (s ∷ ss) (spaced_long table n (s ∷ ss) long have) in omega arith

spaced_read : (table : List (ℕ × List ℕ)) (n s : ℕ) (ss : List ℕ) → is_readable table table ≡ true → list_all (λ r. length r.1 == n) table ≡ true →
    list_all (has_row table) (s ∷ ss) ≡ true → read_spaced table n (spaced table (s ∷ ss)) ≡ Some (s ∷ ss)
spaced_read table n s ss readable long have =
    let wide = spaced_long table n (s ∷ ss) long have in
    let all : List ℕ = flat_map (λ t. 1 ∷ row table t) (s ∷ ss) in
    let cut = ap (rows_before [] (n + 1)) (sym (append-nil all)) ∙ rows_to_end (λ t. 1 ∷ row table t) (n + 1) (s ∷ ss) [] (omega arith) wide in
    ap (λ o. given o (λ rows. symbols table (map without_space rows))) cut ∙ ap (symbols table) (bare table (s ∷ ss)) ∙ symbols_of_rows table table (s ∷ ss) readable have

-- ## CODE39

code39_readable : is_readable code39_table code39_table ≡ true
unfolding code39_data code39_star
code39_readable = refl

code39_nine : list_all (λ r. length r.1 == 9) code39_table ≡ true
unfolding code39_data code39_star
code39_nine = refl

star_is_no_data : has_row code39_data 0x2A ≡ false
unfolding code39_data
star_is_no_data = refl

no_star : (b : ℕ) → has_row code39_data b ≡ true → not (b == 0x2A) ≡ true
no_star b h = elim (eqb_tells b 0x2A) [
  | inl e ↦ absurd (false≢true (sym star_is_no_data ∙ ap (has_row code39_data) (sym e.1) ∙ h))
  | inr e ↦ ap not e.0
]

pub last_of : (xs : List ℕ) (x : ℕ) → last_off (xs ++ x ∷ []) ≡ Some (xs, x)
last_of [] x = refl
last_of (y ∷ []) x = refl
last_of (y ∷ z ∷ zs) x = ap (λ o. given o (λ r. Some (y ∷ r.0, r.1))) (last_of (z ∷ zs) x)

code39_have : (content : List ℕ) → list_all (has_row code39_data) content ≡ true → list_all (has_row code39_table) (content ++ 0x2A ∷ []) ≡ true
code39_have content h =
    all_append (has_row code39_table) content (0x2A ∷ [])
    (all_by (has_row code39_data) (has_row code39_table) content (λ b k. or_right (0x2A == b) (has_row code39_data b) k) h) refl

pub code39_odd : (content es : List ℕ) → code39 content ≡ Some es → length es % 2 ≡ 1
code39_odd content es e =
    let found = some_if (is_code39_content content) (code39_elements content) es e in
    let parts = and_parts (nat_le 1 (length content)) (list_all (has_row code39_data) content) found.0 in
    let count = spaced_count code39_table 9 0x2A (content ++ 0x2A ∷ []) code39_nine (code39_have content parts.1) in
    let same_count = ap length found.1 in
    omega arith

pub code39_read : (content es : List ℕ) → code39 content ≡ Some es → read_code39 es ≡ Some content
code39_read content es e =
    let found = some_if (is_code39_content content) (code39_elements content) es e in
    let parts = and_parts (nat_le 1 (length content)) (list_all (has_row code39_data) content) found.0 in
    let clean = all_by (has_row code39_data) (λ b. not (b == 0x2A)) content no_star parts.1 in
    let have = code39_have content parts.1 in
    ap read_code39 (sym found.1)
    ∙ ap (λ o. given o (λ all. given (after (0x2A ∷ []) all) (λ more. given (last_off more) (λ r. if r.1 == 0x2A && list_all (λ b. not (b == 0x2A)) r.0 then Some r.0 else None))))
    (spaced_read code39_table 9 0x2A (content ++ 0x2A ∷ []) code39_readable code39_nine have)
    ∙ ap (λ o. given o (λ r. if r.1 == 0x2A && list_all (λ b. not (b == 0x2A)) r.0 then Some r.0 else None)) (last_of content 0x2A)
    ∙ ap (λ (b : Bool). if b then Some content else None) clean

-- ## CODABAR

codabar_readable : is_readable codabar_table codabar_table ≡ true
unfolding codabar_table
codabar_readable = refl

codabar_seven : list_all (λ r. length r.1 == 7) codabar_table ≡ true
unfolding codabar_table
codabar_seven = refl

-- The bytes of a content are below 128.
pub end_small : (b : ℕ) → is_codabar_end b ≡ true → b < 128
end_small b h = elim (or_cases (nat_le 0x41 b && nat_le b 0x44) (nat_le 0x61 b && nat_le b 0x64) h) [
  | inl e ↦ let r = and_parts (nat_le 0x41 b) (nat_le b 0x44) e in let m = leb-true b 0x44 r.1 in omega arith
  | inr e ↦ let r = and_parts (nat_le 0x61 b) (nat_le b 0x64) e in let m = leb-true b 0x64 r.1 in omega arith
]

or_small : (x : Bool) (b n : ℕ) → n < 128 → (x ≡ true → b < 128) → (x || b == n) ≡ true → b < 128
or_small x b n k f h = elim (or_cases x (b == n) h) [ inl e ↦ f e | inr e ↦ let m = eqb-true b n e in omega arith ]

data_small : (b : ℕ) → is_codabar b ≡ true → b < 128
data_small b h =
    or_small _ b 0x3A (omega arith) (or_small _ b 0x2F (omega arith) (or_small _ b 0x2E (omega arith) (or_small _ b 0x2D (omega arith)
    (or_small _ b 0x2B (omega arith) (or_small _ b 0x24 (omega arith) (λ d. let r = digit_range b d in let m = r.1 in omega arith)))))) h

-- What the end letters and the other characters are in the table, computed over all bytes.
end_in_table : ℕ → Bool
end_in_table b = not (is_codabar_end b) || has_row codabar_table (upper b) && is_codabar_end (upper b)

data_in_table : ℕ → Bool
data_in_table b = not (is_codabar b) || has_row codabar_table (upper b) && is_codabar (upper b)

ends_in_table : agree_below end_in_table (λ b. true) 128 ≡ true
unfolding end_in_table codabar_table
ends_in_table = refl

all_in_table : agree_below data_in_table (λ b. true) 128 ≡ true
unfolding data_in_table codabar_table
all_in_table = refl

pub implied : (p q : Bool) → p ≡ true → (not p || q) ≡ true → q ≡ true
implied true q e h = h
implied false q e h = absurd (false≢true e)

by_place : (t : Bool) (b : ℕ) → (if t then is_codabar_end b else is_codabar b) ≡ true → (has_row codabar_table (upper b) ≡ true) × ((if t then is_codabar_end (upper b) else is_codabar (upper b)) ≡ true)
unfolding end_in_table data_in_table
by_place true b h =
    and_parts (has_row codabar_table (upper b)) (is_codabar_end (upper b))
    (implied (is_codabar_end b) (has_row codabar_table (upper b) && is_codabar_end (upper b)) h (agree_below_at end_in_table (λ c. true) 128 b ends_in_table (end_small b h)))
by_place false b h =
    and_parts (has_row codabar_table (upper b)) (is_codabar (upper b))
    (implied (is_codabar b) (has_row codabar_table (upper b) && is_codabar (upper b)) h (agree_below_at data_in_table (λ c. true) 128 b all_in_table (data_small b h)))

codabar_all : (n place : ℕ) (bs : List ℕ) → all_from place (allows Codabar n) bs ≡ true →
    (list_all (has_row codabar_table) (map upper bs) ≡ true) × (all_from place (allows Codabar n) (map upper bs) ≡ true)
codabar_all n place [] h = (refl, refl)
codabar_all n place (b ∷ bs) h =
    let parts = and_parts (allows Codabar n place b) (all_from (place + 1) (allows Codabar n) bs) h in
    let here = by_place (place == 0 || place + 1 == n) b parts.0 in
    let more = codabar_all n (place + 1) bs parts.1 in (
      and_from (has_row codabar_table (upper b)) (list_all (has_row codabar_table) (map upper bs)) here.0 more.0,
      and_from (allows Codabar n place (upper b)) (all_from (place + 1) (allows Codabar n) (map upper bs)) here.1 more.1,
    )

pub codabar_odd : (content es : List ℕ) → codabar content ≡ Some es → length es % 2 ≡ 1
codabar_odd [] es e = absurd cc
codabar_odd (c ∷ cs) es e =
    let found = some_if (is_content Codabar (c ∷ cs)) (spaced codabar_table (map upper (c ∷ cs))) es e in
    let parts = and_parts (has_length Codabar (length (c ∷ cs))) (all_from 0 (allows Codabar (length (c ∷ cs))) (c ∷ cs)) found.0 in
    let all = codabar_all (length (c ∷ cs)) 0 (c ∷ cs) parts.1 in
    let count = spaced_count codabar_table 7 (upper c) (map upper cs) codabar_seven all.0 in
    let same_count = ap length found.1 in
    omega arith

pub codabar_read : (content es : List ℕ) → codabar content ≡ Some es → read_codabar es ≡ Some (map upper content)
codabar_read [] es e = absurd cc
codabar_read (c ∷ cs) es e =
    let found = some_if (is_content Codabar (c ∷ cs)) (spaced codabar_table (map upper (c ∷ cs))) es e in
    let parts = and_parts (has_length Codabar (length (c ∷ cs))) (all_from 0 (allows Codabar (length (c ∷ cs))) (c ∷ cs)) found.0 in
    let all = codabar_all (length (c ∷ cs)) 0 (c ∷ cs) parts.1 in
    let whole : is_content Codabar (map upper (c ∷ cs)) ≡ true
    = ap (λ n. has_length Codabar n && all_from 0 (allows Codabar n) (map upper (c ∷ cs))) (map_long upper (c ∷ cs))
    ∙ and_from (has_length Codabar (length (c ∷ cs))) (all_from 0 (allows Codabar (length (c ∷ cs))) (map upper (c ∷ cs))) parts.0 all.1 in
    ap read_codabar (sym found.1)
    ∙ ap (λ o. given o (λ found. if is_content Codabar found then Some found else None)) (spaced_read codabar_table 7 (upper c) (map upper cs) codabar_readable codabar_seven all.0)
    ∙ ap (λ (b : Bool). if b then Some (map upper (c ∷ cs)) else None) whole
