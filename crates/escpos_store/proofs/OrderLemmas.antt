-- The rows of a ledger in the order of their ids are those of its entries.
use Rattle.std.proofs.Common.{◌≡◌, ◌≤◌, ℕ, suc, ◌+◌, pos, Bool, true, false, not, All, List, [], ◌∷◌, filter, map, get_or, refl, ap, ap₂, subst, subst₂, ◌∙◌, arith, inl, inr, IsPermutation, is_lt, Equal}
use Rattle.std.specs.Prelude.{⊤}
use Rattle.std.specs.List.{AllByRecursion}
use Rattle.std.specs.List.Sorted.{IsSorted}
use Rattle.std.specs.Ordering.{ordering_then, int_cmp}
use Rattle.std.proofs.lemmas.Bool.{cases_Bool}
use Rattle.std.proofs.lemmas.Bool.Decides.{nat_tests}
use Rattle.std.proofs.lemmas.Grind.{common_steps}
use Rattle.std.proofs.lemmas.List.Elements.{All-from_recursion, recursion_from_All}
use Rattle.std.proofs.lemmas.List.Sorted.{length_permutation, All-permutation, IsPermutation-sym, IsPermutation-trans}
use Rattle.sqlite_keyed.proofs.ListLemmas.{IsPermutation-filter}
use Rattle.sqlite_value.proofs.OrderLemmas.{value_cmp-Int}
use Rattle.sqlite_trees.specs.Objects.{number_in}
use Rattle.sqlite.specs.declared.types.Value.TheVariants.{Int}
use Rattle.sqlite.specs.Order.{Row, column, value_cmp}
use Rattle.sqlite.specs.Query.{Output, output, output_cmp}
use Rattle.sqlite.specs.State.{State, HasCleanDisk, Shown}
use Rattle.std.proofs.Common.{Vec, Global, Result, Ok, Err, IfOk}
use Rattle.sqlite.specs.declared.error.Error.{Error}
use Rattle.sqlite.proofs.Callers.{one_permutation}
use Rattle.escpos_till.specs.declared.entry.Entry.{Entry}
use Rattle.escpos_store.specs.Table.{row_of, rows_from, ledger_schema, select_text}
use Rattle.escpos_store.specs.Holds.{HasEntries}
use Rattle.escpos_store.specs.Laws.{has_id, here, others}
use Rattle.escpos_store.proofs.StatementLemmas.{query, selects, sorted_by}

abbrev id_of : Row → ℕ
id_of row = number_in (column row 0)

-- each row's id is no more than those of the rows after it
abbrev pub Rises : List Row → Type 0
Rises [] = ⊤
Rises (x ∷ xs) = AllByRecursion (λ r. id_of x ≤ id_of r) xs × Rises xs

first_kept : (p : Row → Bool) (x : Row) (xs : List Row) → p x ≡ true → filter p (x ∷ xs) ≡ x ∷ filter p xs
first_kept p x xs is = rw is

none_kept : (p : Row → Bool) (xs : List Row) → filter p xs ≡ [] → filter (λ r. not (p r)) xs ≡ xs
none_kept p [] none = refl
none_kept p (x ∷ xs) none = elim (cases_Bool (p x)) [
  | inl is ↦ absurd (let e = rw is at none in cc)
  | inr is ↦ (let rest = none_kept p xs (rw is at none) in rw is (ap (λ more. x ∷ more) rest))
]

first_dropped : (p : Row → Bool) (x : Row) (xs : List Row) → p x ≡ true → filter p xs ≡ [] → filter (λ r. not (p r)) (x ∷ xs) ≡ xs
first_dropped p x xs is none = rw is (none_kept p xs none)

at_least : (id at : ℕ) (entries : List Entry) → id ≤ at → AllByRecursion (λ r. id ≤ id_of r) (rows_from at entries)
at_least id at [] low = tt
at_least id at (e ∷ entries) low = (low, at_least id (at + 1) entries (omega arith))

has_same : (id : ℕ) (x : Row) → id_of x ≡ id → has_id id x ≡ true
has_same id x is = grind (arith, nat_tests)

-- rows that rise and are those of some entries, in some order, are those rows in that order
pub in_order : (id : ℕ) (xs : List Row) (ys : List Entry) → IsPermutation xs (rows_from id ys) → Rises xs → xs ≡ rows_from id ys
in_order id [] [] p rise = refl
in_order id [] (y ∷ ys) p rise = absurd (omega (arith, length_permutation _ _ p))
in_order id (x ∷ xs) [] p rise = absurd (omega (arith, length_permutation _ _ p))
in_order id (x ∷ xs) (y ∷ ys) p rise =
    let low : All (λ r. id_of x ≤ id_of r) (rows_from id (y ∷ ys)) =
    All-permutation (λ r. id_of x ≤ id_of r) (x ∷ xs) _ p (All-from_recursion (λ r. id_of x ≤ id_of r) (x ∷ xs) (omega arith, rise.0)) in
    let upper : id_of x ≤ id = low 0 [] (omega arith) in
    let high : All (λ r. id ≤ id_of r) (x ∷ xs) =
    All-permutation (λ r. id ≤ id_of r) _ (x ∷ xs) (IsPermutation-sym _ _ p) (All-from_recursion (λ r. id ≤ id_of r) (rows_from id (y ∷ ys)) (at_least id id (y ∷ ys) (omega arith))) in
    let lower : id ≤ id_of x = high 0 [] (omega arith) in
    let same : id_of x ≡ id = omega arith in
    let passes : has_id id x ≡ true = has_same id x same in
    let one : IsPermutation (x ∷ filter (has_id id) xs) (row_of id y ∷ []) = subst₂ IsPermutation (first_kept (has_id id) x xs passes) (here id y ys) (IsPermutation-filter (has_id id) _ _ p) in
    let alone : x ∷ filter (has_id id) xs ≡ row_of id y ∷ [] = one_permutation (row_of id y) (x ∷ filter (has_id id) xs) (IsPermutation-sym _ _ one) in
    let first : x ≡ row_of id y = cc in
    let none : filter (has_id id) xs ≡ [] = cc in
    let rest : IsPermutation xs (rows_from (id + 1) ys) =
    subst₂ IsPermutation (first_dropped (has_id id) x xs passes none) (others id y ys) (IsPermutation-filter (λ r. not (has_id id r)) _ _ p) in
    ap₂ ◌∷◌ first (in_order (id + 1) xs ys rest rise.1)

-- ## What ORDER BY gives

not_less : (m n : ℕ) → is_lt (ordering_then (int_cmp (pos m) (pos n)) Equal) ≡ false → n ≤ m
not_less m n h = grind (arith, common_steps)

-- the row is sorted by its id
abbrev IsKeyed : Output → Type 0
IsKeyed o = (o.0 ≡ column o.1 0 ∷ []) × (column o.1 0 ≡ Int (pos (id_of o.1)))

step : (x y : Output) → IsKeyed x → IsKeyed y → is_lt (output_cmp query y x) ≡ false → id_of x.1 ≤ id_of y.1
step x y kx ky h =
    let a : x.0 ≡ Int (pos (id_of x.1)) ∷ [] = kx.0 ∙ ap (λ v. v ∷ []) kx.1 in
    let b : y.0 ≡ Int (pos (id_of y.1)) ∷ [] = ky.0 ∙ ap (λ v. v ∷ []) ky.1 in
    let less : is_lt (ordering_then (value_cmp (Int (pos (id_of y.1))) (Int (pos (id_of x.1)))) Equal) ≡ false = rw (a, b) at h in
    not_less (id_of y.1) (id_of x.1) (rw (value_cmp-Int (pos (id_of y.1)) (pos (id_of x.1))) at less)

weaker : (a b : ℕ) → a ≤ b → (xs : List Row) → AllByRecursion (λ r. b ≤ id_of r) xs → AllByRecursion (λ r. a ≤ id_of r) xs
weaker a b low [] all = tt
weaker a b low (x ∷ xs) all = (omega (arith, all.0), weaker a b low xs all.1)

pub rises : (os : List Output) → AllByRecursion IsKeyed os → IsSorted (output_cmp query) os → Rises (map (λ o. o.1) os)
rises [] all sorted = tt
rises (x ∷ []) all sorted = (tt, tt)
rises (x ∷ y ∷ os) all sorted =
    let rest = rises (y ∷ os) all.1 (λ k d from low.
    let e : suc k + 1 ≡ suc (k + 1) = omega arith in
    subst (λ n. is_lt (output_cmp query (get_or (x ∷ y ∷ os) n d) (get_or (x ∷ y ∷ os) (suc k) d)) ≡ false) e (sorted (suc k) d (omega arith) (omega arith))) in
    let first : id_of x.1 ≤ id_of y.1 = step x y all.0 all.1.0 (sorted 0 x (omega arith) (omega arith)) in
    ((first, weaker _ _ first _ rest.0), rest)

ids : (id : ℕ) (entries : List Entry) → AllByRecursion (λ r. column r 0 ≡ Int (pos (id_of r))) (rows_from id entries)
ids id [] = tt
ids id (e ∷ entries) = (refl, ids (id + 1) entries)

keyed : (os : List Output) → AllByRecursion (λ (o : Output). o.0 ≡ column o.1 0 ∷ []) os → AllByRecursion (λ r. column r 0 ≡ Int (pos (id_of r))) (map (λ (o : Output). o.1) os) → AllByRecursion IsKeyed os
keyed [] p q = tt
keyed (o ∷ os) p q = ((p.0, q.0), keyed os p.1 q.1)

-- outputs in the order of the query whose rows are those of some entries
pub sorted_rows : (os : List Output) (entries : List Entry) → All (λ (o : Output). o.0 ≡ column o.1 0 ∷ []) os → IsSorted (output_cmp query) os → IsPermutation (map (λ (o : Output). o.1) os) (rows_from 1 entries)
    → map (λ (o : Output). o.1) os ≡ rows_from 1 entries
sorted_rows os entries by sorted p =
    let each = All-permutation (λ r. column r 0 ≡ Int (pos (id_of r))) _ (map (λ (o : Output). o.1) os) (IsPermutation-sym _ _ p) (All-from_recursion (λ r. column r 0 ≡ Int (pos (id_of r))) (rows_from 1 entries) (ids 1 entries)) in
    in_order 1 (map (λ (o : Output). o.1) os) entries p (rises os (keyed os (recursion_from_All (λ (o : Output). o.0 ≡ column o.1 0 ∷ []) os by) (recursion_from_All (λ r. column r 0 ≡ Int (pos (id_of r))) (map (λ (o : Output). o.1) os) each)) sorted)

shown_keys : (rows : List Row) → AllByRecursion (λ (o : Output). o.0 ≡ column o.1 0 ∷ []) (map (output query) (map (λ (r : Row). [] ∷ r ∷ []) rows))
shown_keys [] = tt
shown_keys (r ∷ rows) = (refl, shown_keys rows)

-- the query gives the rows of a ledger as those of its entries
pub selects_entries : (old new : State) (rows : List Row) → old.now.schema ≡ ledger_schema → Shown select_text [] old new rows → (entries : List Entry) → HasEntries old.now.trees entries → rows ≡ rows_from 1 entries
selects_entries old new rows has h entries held =
    let q = sorted_by old new rows has h in
    let p = IsPermutation-trans _ _ _ (IsPermutation-sym _ _ (selects old new rows has h)) held.are in
    let by = All-permutation (λ (o : Output). o.0 ≡ column o.1 0 ∷ []) _ q.0 q.2
    (All-from_recursion (λ (o : Output). o.0 ≡ column o.1 0 ∷ []) (map (output query) (map (λ (r : Row). [] ∷ r ∷ []) (old.now.trees 0))) (shown_keys (old.now.trees 0))) in
    q.1 ∙ sorted_rows q.0 entries by q.3 (subst (λ rows. IsPermutation rows (rows_from 1 entries)) q.1 p)

pub entries_if_ok : (old new : State) (r : Result (Vec Row Global) Error) → (HasCleanDisk new → IfOk r (λ rows. Shown select_text [] old new rows.items))
    → IfOk r (λ rows. HasCleanDisk new → old.now.schema ≡ ledger_schema → (entries : List Entry) → HasEntries old.now.trees entries → rows.items ≡ rows_from 1 entries)
entries_if_ok old new (Err error) ran = tt
entries_if_ok old new (Ok rows) ran = λ clean has entries held. selects_entries old new rows.items has (ran clean) entries held
