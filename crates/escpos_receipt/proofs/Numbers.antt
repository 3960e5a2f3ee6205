-- What the values of a list are, one after another.
use Rattle.std.proofs.Common.{◌≡◌, ℕ, suc, ◌+◌, ◌<◌, ◌≤◌, List, [], ◌∷◌, ◌++◌, length, drop, get_or, Option, Some, None, refl, sym, ◌∙◌, ap, append_assoc, append-nil, add-one, Bool, true, false, cond, arith}
use Rattle.std.specs.Prelude.{option_map, nat_le, MatchOption}
use Rattle.std.proofs.lemmas.Bool.Decides.{nat_tests}
use Rattle.std.proofs.Math.Seq.{drop-cons}
use Rattle.std.proofs.lemmas.List.{drop_all}
use Rattle.serde_json.specs.Data.{Data}
use Rattle.serde_json.specs.Events.{items_len}
use Rattle.serde_json.specs.Find.{as_array}
use Rattle.serde_json.specs.View.{items_view, view}
use Rattle.serde_json.specs.declared.value.Value.{Value}
use Rattle.escpos_text.specs.declared.choice.TheConstants.{MOST_TABLES}
use Rattle.escpos_receipt.specs.Entries.{each_of, field_in, numbers_in, row_fields, tables_in, ◌>>=◌}
use Rattle.escpos_layout.specs.declared.row.Field.{Field}
use Rattle.escpos_receipt.proofs.ValueViews.{array_of}

pub count_of : (vs : List Value) → items_len (items_view vs) ≡ length vs
count_of [] = refl
count_of (v ∷ vs) = ap (λ n. suc n) (count_of vs)

rest_at : (vs : List Value) (i : ℕ) (v : Value) → i < length vs → v ≡ get_or vs i v → drop i vs ≡ v ∷ drop (i + 1) vs
rest_at vs i v h e = drop-cons vs i v h ∙ ap (λ r. r ∷ drop (suc i) vs) (sym e) ∙ ap (λ n. v ∷ drop n vs) (sym (add-one i))

abbrev after : {A : Type 0} → List A → Option (List A) → Option (List A)
after xs o = option_map (λ ns. xs ++ ns) o

one_more : {A : Type 0} (xs : List A) (n : A) (o : Option (List A)) → after xs (o >>= λ ns. Some (n ∷ ns)) ≡ after (xs ++ n ∷ []) o
one_more xs n None = refl
one_more xs n (Some ns) = ap (λ l. Some l) (sym (append_assoc xs (n ∷ []) ns))

pub value_read : {A : Type 0} (is : Data → Option A) (vs : List Value) (i : ℕ) (v : Value) (xs : List A) (n : A) → i < length vs → v ≡ get_or vs i v → Some n ≡ is (view v)
    → after xs (each_of is (items_view (drop i vs))) ≡ after (xs ++ n ∷ []) (each_of is (items_view (drop (i + 1) vs)))
value_read is vs i v xs n h e read =
    ap (λ l. after xs (each_of is (items_view l))) (rest_at vs i v h e)
    ∙ ap (λ o. after xs (o >>= λ k. each_of is (items_view (drop (i + 1) vs)) >>= λ ns. Some (k ∷ ns))) (sym read)
    ∙ one_more xs n (each_of is (items_view (drop (i + 1) vs)))

pub value_missed : {A : Type 0} (is : Data → Option A) (vs : List Value) (i : ℕ) (v : Value) (xs : List A) → i < length vs → v ≡ get_or vs i v → None ≡ is (view v)
    → after xs (each_of is (items_view (drop i vs))) ≡ None
value_missed is vs i v xs h e missed =
    ap (λ l. after xs (each_of is (items_view l))) (rest_at vs i v h e)
    ∙ ap (λ o. after xs (o >>= λ k. each_of is (items_view (drop (i + 1) vs)) >>= λ ns. Some (k ∷ ns))) (sym missed)

pub all_read : {A : Type 0} (is : Data → Option A) (vs : List Value) (i : ℕ) (xs : List A) → length vs ≤ i → after xs (each_of is (items_view (drop i vs))) ≡ Some xs
all_read is vs i xs h = ap (λ l. after xs (each_of is (items_view l))) (drop_all i vs h) ∙ ap (λ l. Some l) (append-nil xs)

pub no_row : (d : Data) (vs : List Value) → Some (items_view vs) ≡ as_array d → each_of field_in (items_view vs) ≡ None → row_fields d ≡ None
no_row d vs e h = ap row_fields (array_of d (items_view vs) e) ∙ h

pub row_read : (d : Data) (vs : List Value) (fields : List Field) → Some (items_view vs) ≡ as_array d → each_of field_in (items_view vs) ≡ Some fields
    → row_fields d ≡ Some fields
row_read d vs fields e h = ap row_fields (array_of d (items_view vs) e) ∙ h

-- The tables of a list, by how long it is.
pub of_list : (d : Data) (vs : List Value) (b : Bool) → Some (items_view vs) ≡ as_array d → nat_le (length vs) MOST_TABLES ≡ b
    → tables_in d ≡ cond b (numbers_in (items_view vs)) None
of_list d vs b e h =
    ap tables_in (array_of d (items_view vs) e)
    ∙ ap (λ t. cond t (numbers_in (items_view vs)) None) (ap (λ n. nat_le n MOST_TABLES) (count_of vs) ∙ h)

pub too_many : (d : Data) (vs : List Value) → Some (items_view vs) ≡ as_array d → MOST_TABLES < length vs → None ≡ tables_in d
too_many d vs e h = sym (of_list d vs false e (grind (arith, nat_tests)))

pub few_enough : (d : Data) (vs : List Value) (xs : List ℕ) (o : Option (List ℕ)) → Some (items_view vs) ≡ as_array d → length vs ≤ MOST_TABLES
    → numbers_in (items_view vs) ≡ Some xs → length xs ≡ length vs → MatchOption o (MOST_TABLES < length xs) (λ choice. choice ≡ xs) → o ≡ tables_in d
few_enough d vs xs None e h read same is = absurd (omega arith)
few_enough d vs xs (Some choice) e h read same is = ap (λ l. Some l) is ∙ sym (of_list d vs true e (grind (arith, nat_tests)) ∙ read)
