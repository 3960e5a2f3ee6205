-- The rows of a list of entries.
use Rattle.std.proofs.Common.{◌≡◌, ◌≢◌, ℕ, zero, suc, ◌+◌, ◌<◌, false, pos, Option, None, Some, IfSome, List, [], ◌∷◌, ◌++◌, All, length, length-take-le, take, get_or, map, refl, sym, ap, subst, ◌∙◌, arith, IsPermutation, Ordering, Less, Equal, Greater, is_eq}
use Rattle.std.specs.List.{list_any}
use Rattle.std.specs.Ordering.{match_ordering}
use Rattle.std.proofs.lemmas.List.Sorted.{IsPermutation-refl, IsPermutation-cons, IsPermutation-trans, IsPermutation-middle, IsPermutation-map, IsPermutation-sym, IsPermutation-to_front}
use Rattle.std.proofs.Math.Seq.{take-suc}
use native.Mathlib.Numerals.{add-one}
use Rattle.escpos_till.specs.declared.entry.Entry.{Entry}
use Rattle.sqlite.specs.declared.types.Value.{Value}
use Rattle.sqlite.specs.declared.types.Value.TheVariants.{Int}
use Rattle.sqlite.specs.Order.{Row, column, value_cmp}
use Rattle.sqlite.specs.Tree.{rowid, put_row}
use Rattle.escpos_store.specs.Table.{content_of, kind_of, next_of, number_of, row_of, rows_from, visible, IsReal}

pub rows_push : (id : ℕ) (entries : List Entry) (e : Entry) → rows_from id (entries ++ e ∷ []) ≡ rows_from id entries ++ row_of (id + length entries) e ∷ []
rows_push id [] e = let at : id ≡ id + 0 = omega arith in ap (λ n. row_of n e ∷ []) at
rows_push id (f ∷ entries) e =
    let at : id + 1 + length entries ≡ id + length (f ∷ entries) = omega arith in
    ap (λ rest. row_of id f ∷ rest) (rows_push (id + 1) entries e ∙ ap (λ n. rows_from (id + 1) entries ++ row_of n e ∷ []) at)

-- the next row is that of the next entry
pub row_after : (all : List Row) (i : ℕ) (row : Row) (entries : List Entry) (e : Entry) → i < length all → row ≡ get_or all i row
    → take i all ≡ rows_from 1 entries → row ≡ row_of (1 + length entries) e → take (i + 1) all ≡ rows_from 1 (entries ++ e ∷ [])
row_after all i row entries e inside at same is =
    ap (λ n. take n all) (add-one i) ∙ take-suc all i row inside ∙ ap (λ r. take i all ++ r ∷ []) (sym at ∙ is) ∙ ap (λ rows. rows ++ row_of (1 + length entries) e ∷ []) same
    ∙ sym (rows_push 1 entries e)

-- ## A row that is read

-- a row of five values is these
five_values : (row : Row) (a b c d e : Value) → length row ≡ 5 → column row 0 ≡ a → column row 1 ≡ b → column row 2 ≡ c → column row 3 ≡ d → column row 4 ≡ e
    → row ≡ a ∷ b ∷ c ∷ d ∷ e ∷ []
five_values [] a b c d e l p q r s t = absurd (omega (arith, l))
five_values (v ∷ []) a b c d e l p q r s t = absurd (omega (arith, l))
five_values (v ∷ w ∷ []) a b c d e l p q r s t = absurd (omega (arith, l))
five_values (v ∷ w ∷ x ∷ []) a b c d e l p q r s t = absurd (omega (arith, l))
five_values (v ∷ w ∷ x ∷ y ∷ []) a b c d e l p q r s t = absurd (omega (arith, l))
five_values (v ∷ w ∷ x ∷ y ∷ z ∷ []) a b c d e l p q r s t = cc
five_values (v ∷ w ∷ x ∷ y ∷ z ∷ u ∷ more) a b c d e l p q r s t = absurd (omega (arith, l))

-- a row with the values of an entry is that entry's
pub row_of_found : (row : Row) (id kind number next at : ℕ) (content : Value) (found : Option Entry) → length row ≡ 5 → column row 0 ≡ Int (pos id) → column row 1 ≡ Int (pos kind)
    → column row 2 ≡ Int (pos number) → column row 3 ≡ Int (pos next) → column row 4 ≡ content → id ≡ at
    → IfSome found (λ e. (kind_of e ≡ kind) × (number_of e ≡ number) × (next_of e ≡ next) × (content_of e ≡ content)) → IfSome found (λ e. row ≡ row_of at e)
row_of_found row id kind number next at content None l p q r s t same h = tt
row_of_found row id kind number next at content (Some e) l p q r s t same (k, n, x, c) =
    let values = five_values row (Int (pos id)) (Int (pos kind)) (Int (pos number)) (Int (pos next)) content l p q r s t in
    cc

pub length-rows : (id : ℕ) (entries : List Entry) → length (rows_from id entries) ≡ length entries
length-rows id [] = refl
length-rows id (e ∷ entries) = ap suc (length-rows (id + 1) entries)

nth_row : (id : ℕ) (all : List Entry) (i : ℕ) (row : Row) → i < length all → All IsReal all → (e : Entry) × IsReal e × (get_or (rows_from id all) i row ≡ row_of (id + i) e)
nth_row id [] i row inside real = absurd (omega arith)
nth_row id (e ∷ all) zero row inside real = let at : id ≡ id + 0 = omega arith in (e, real 0 e (omega arith), ap (λ n. row_of n e) at)
nth_row id (e ∷ all) (suc i) row inside real =
    let r = nth_row (id + 1) all i row (omega arith) (λ k d low. real (suc k) d (omega arith)) in
    let at : id + 1 + i ≡ id + suc i = omega arith in
    (r.0, r.1, r.2 ∙ ap (λ n. row_of n r.0) at)

-- where the next row is of no entry, the rows are of no entries
pub none_there : (rows : List Row) (i n : ℕ) (row : Row) (entries : List Entry) → i < length rows → row ≡ get_or rows i row → take i rows ≡ rows_from 1 entries → n ≡ length entries
    → ((e : Entry) → IsReal e → row ≢ row_of (1 + n) e) → (all : List Entry) → All IsReal all → rows ≢ rows_from 1 all
none_there rows i n row entries inside at same len none all real is =
    let so_far : i ≡ n = omega (arith, length-take-le i rows (omega arith), ap length same, length-rows 1 entries) in
    let long : i < length all = omega (arith, ap length is, length-rows 1 all) in
    let r = nth_row 1 all i row long real in
    none r.0 r.1 (at ∙ ap (λ (l : List Row). get_or l i row) is ∙ r.2 ∙ ap (λ k. row_of (1 + k) r.0) so_far)

-- ## A row that is added

-- a new row goes to some place among rows of which none has its rowid
pub put_among : (new : Row) (old : List Row) → list_any (λ r. is_eq (value_cmp (rowid r) (rowid new))) old ≡ false → IsPermutation (put_row new old) (new ∷ old)
put_among new [] fresh = IsPermutation-refl _
put_among new (r ∷ old) fresh = go (value_cmp (rowid r) (rowid new)) refl (put_among new old)
  where
    go : (o : Ordering) → value_cmp (rowid r) (rowid new) ≡ o → (list_any (λ r. is_eq (value_cmp (rowid r) (rowid new))) old ≡ false → IsPermutation (put_row new old) (new ∷ old))
        → IsPermutation (match_ordering o (r ∷ put_row new old) (new ∷ old) (new ∷ r ∷ old)) (new ∷ r ∷ old)
    go Less is more = IsPermutation-trans _ _ _ (IsPermutation-cons r _ _ (more (rw is at fresh))) (IsPermutation-middle (r ∷ []) new old)
    go Equal is more = absurd (let e = rw is at fresh in cc)
    go Greater is more = IsPermutation-refl _

-- what is shown of the rows, with that of a new row, is the rows of one entry more
pub one_more : (entries : List Entry) (e : Entry) (new : Row) (old : List Row) → IsPermutation (map visible old) (rows_from 1 entries)
    → visible new ≡ row_of (1 + length entries) e → IsPermutation (put_row new old) (new ∷ old) → IsPermutation (map visible (put_row new old)) (rows_from 1 (entries ++ e ∷ []))
one_more entries e new old has is put =
    let row = row_of (1 + length entries) e in
    let all = IsPermutation-map visible _ _ put in
    let shown : IsPermutation (visible new ∷ map visible old) (row ∷ rows_from 1 entries) = subst (λ r. IsPermutation (r ∷ map visible old) (row ∷ rows_from 1 entries)) (sym is) (IsPermutation-cons row _ _ has) in
    let last : IsPermutation (row ∷ rows_from 1 entries) (rows_from 1 entries ++ row ∷ []) = IsPermutation-sym _ _ (IsPermutation-to_front (rows_from 1 entries) row) in
    subst (IsPermutation (map visible (put_row new old))) (sym (rows_push 1 entries e)) (IsPermutation-trans _ _ _ all (IsPermutation-trans _ _ _ shown last))
