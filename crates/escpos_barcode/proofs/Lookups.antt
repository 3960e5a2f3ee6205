-- What is looked up in a table by its symbol is looked up by its pattern.
use Rattle.std.proofs.Common.{◌≡◌, ℕ, suc, ◌+◌, ◌*◌, ◌<◌, ◌≤◌, ◌⊎◌, inl, inr, List, [], ◌∷◌, ◌++◌, length, map, take, drop, refl, sym, ap, ◌∙◌, arith, true, false, Bool, Option, Some, None, append_assoc}
use Rattle.std.specs.Prelude.{◌==◌, ◌||◌, ◌/◌, flat_map, if◌then◌else◌}
use Rattle.std.specs.List.{list_all}
use Rattle.std.proofs.lemmas.Bool.Decides.{eqb_tells}
use Rattle.std.proofs.lemmas.Bool.{and_parts, and_from, eqb-true, eq-eqb}
use Rattle.std.proofs.lemmas.Nat.{div-mul-add}
use Rattle.std.proofs.lemmas.List.{take-append-drop}
use Rattle.std.proofs.lemmas.List.Folds.{list_all-append}
use Rattle.std.proofs.Math.ListN.{length-append}
use Rattle.std.proofs.Math.Nat.{mul-suc, mul_comm}
use Rattle.std.proofs.Math.Seq.{take-append_seam, drop-append_seam}
use Rattle.escpos_barcode.specs.Chains.{given, joined}
use Rattle.escpos_barcode.specs.Tables.{row, has_row, same, symbol_of, numbered}
use Rattle.escpos_barcode.specs.Reader.{symbols, first_rows, rows_before}

-- ## Steps that may fail

pub some_if : {A : Type 0} (t : Bool) (x y : A) → (if t then Some x else None) ≡ Some y → (t ≡ true) × (x ≡ y)
some_if true x y e = (refl, cc)
some_if false x y e = absurd cc

pub if_there : {A : Type 0} (t : Bool) (o : Option A) (y : A) → (if t then o else None) ≡ Some y → (t ≡ true) × (o ≡ Some y)
if_there true o y e = (refl, e)
if_there false o y e = absurd cc

pub given_some : {A B : Type 0} (o : Option A) (f : A → Option B) (y : B) → given o f ≡ Some y → (x : A) × (o ≡ Some x) × (f x ≡ Some y)
given_some None f y e = absurd cc
given_some (Some x) f y e = (x, refl, e)

pub if_some : {A : Type 0} (t : Bool) (x y : A) (rest : Option A) → (if t then Some x else rest) ≡ Some y →
    ((t ≡ true) × (x ≡ y)) ⊎ ((t ≡ false) × (rest ≡ Some y))
if_some true x y rest e = inl (refl, cc)
if_some false x y rest e = inr (refl, e)

pub joined_some : {A : Type 0} (xs ys : List A) (o : Option (List A)) → joined xs o ≡ Some ys → (zs : List A) × (o ≡ Some zs) × (xs ++ zs ≡ ys)
joined_some xs ys None e = absurd cc
joined_some xs ys (Some zs) e = (zs, refl, cc)

-- ## Tables

abbrev pub finds : Option ℕ → ℕ → Bool
finds None s = false
finds (Some x) s = x == s

-- Each pattern of these rows is that of their symbol in the whole table.
abbrev pub is_readable : List (ℕ × List ℕ) → List (ℕ × List ℕ) → Bool
is_readable whole table = list_all (λ r. finds (symbol_of whole r.1) r.0) table

pub found : (o : Option ℕ) (s : ℕ) → finds o s ≡ true → o ≡ Some s
found None s h = absurd cc
found (Some x) s h = ap (λ y. Some y) (eqb-true x s h)

pub symbol_of_row : (whole table : List (ℕ × List ℕ)) (s : ℕ) → is_readable whole table ≡ true → has_row table s ≡ true → symbol_of whole (row table s) ≡ Some s
symbol_of_row whole [] s h k = absurd cc
symbol_of_row whole (r ∷ rs) s h k =
    let parts = and_parts (finds (symbol_of whole r.1) r.0) (is_readable whole rs) h in
    elim (eqb_tells r.0 s) [
      | inl e ↦ ap (λ (b : Bool). symbol_of whole (if b then r.1 else row rs s)) e.0 ∙ found (symbol_of whole r.1) r.0 parts.0 ∙ ap (λ x. Some x) e.1
      | inr e ↦
          ap (λ (b : Bool). symbol_of whole (if b then r.1 else row rs s)) e.0
          ∙ symbol_of_row whole rs s parts.1 (ap (λ (b : Bool). b || has_row rs s) (sym e.0) ∙ k)
    ]

-- What holds of each pattern of a table holds of that of a symbol that it has.
pub row_has : (p : List ℕ → Bool) (table : List (ℕ × List ℕ)) (s : ℕ) → list_all (λ r. p r.1) table ≡ true → has_row table s ≡ true → p (row table s) ≡ true
row_has p [] s h k = absurd cc
row_has p (r ∷ rs) s h k =
    let parts = and_parts (p r.1) (list_all (λ q. p q.1) rs) h in
    elim (eqb_tells r.0 s) [
      | inl e ↦ ap (λ (b : Bool). p (if b then r.1 else row rs s)) e.0 ∙ parts.0
      | inr e ↦ ap (λ (b : Bool). p (if b then r.1 else row rs s)) e.0 ∙ row_has p rs s parts.1 (ap (λ (b : Bool). b || has_row rs s) (sym e.0) ∙ k)
    ]

pub has_numbered : (rows : List (List ℕ)) (n s : ℕ) → n ≤ s → s < n + length rows → has_row (numbered n rows) s ≡ true
has_numbered [] n s h k = absurd (omega arith)
has_numbered (r ∷ rs) n s h k = elim (eqb_tells n s) [
  | inl e ↦ ap (λ (b : Bool). b || has_row (numbered (n + 1) rs) s) e.0
  | inr e ↦ ap (λ (b : Bool). b || has_row (numbered (n + 1) rs) s) e.0 ∙ has_numbered rs (n + 1) s (omega arith) (omega arith)
]

pub symbols_of_rows : (whole table : List (ℕ × List ℕ)) (ss : List ℕ) → is_readable whole table ≡ true → list_all (has_row table) ss ≡ true →
    symbols whole (map (row table) ss) ≡ Some ss
symbols_of_rows whole table [] h k = refl
symbols_of_rows whole table (s ∷ ss) h k =
    let parts = and_parts (has_row table s) (list_all (has_row table) ss) k in
    ap (λ o. given o (λ x. joined (x ∷ []) (symbols whole (map (row table) ss)))) (symbol_of_row whole table s h parts.0)
    ∙ ap (λ o. joined (s ∷ []) o) (symbols_of_rows whole table ss h parts.1)

-- ## Lists

pub same_self : (xs : List ℕ) → same xs xs ≡ true
same_self [] = refl
same_self (x ∷ xs) = and_from (x == x) (same xs xs) (eq-eqb x x refl) (same_self xs)

pub map_long : {A B : Type 0} (f : A → B) (xs : List A) → length (map f xs) ≡ length xs
map_long f [] = refl
map_long f (x ∷ xs) = ap (λ n. suc n) (map_long f xs)

-- What holds of each element by another test
pub all_by : (p q : ℕ → Bool) (xs : List ℕ) → ((x : ℕ) → p x ≡ true → q x ≡ true) → list_all p xs ≡ true → list_all q xs ≡ true
all_by p q [] f h = refl
all_by p q (x ∷ xs) f h = let parts = and_parts (p x) (list_all p xs) h in and_from (q x) (list_all q xs) (f x parts.0) (all_by p q xs f parts.1)

pub all_cut : (p : ℕ → Bool) (n : ℕ) (xs : List ℕ) → list_all p xs ≡ true → (list_all p (take n xs) ≡ true) × (list_all p (drop n xs) ≡ true)
all_cut p n xs h =
    and_parts (list_all p (take n xs)) (list_all p (drop n xs)) (sym (list_all-append p (take n xs) (drop n xs)) ∙ ap (list_all p) (take-append-drop n xs) ∙ h)

pub all_append : (p : ℕ → Bool) (xs ys : List ℕ) → list_all p xs ≡ true → list_all p ys ≡ true → list_all p (xs ++ ys) ≡ true
all_append p [] ys h k = k
all_append p (x ∷ xs) ys h k = let parts = and_parts (p x) (list_all p xs) h in and_from (p x) (list_all p (xs ++ ys)) parts.0 (all_append p xs ys parts.1 k)

-- ## Rows

module _ {A : Type 0} (f : A → List ℕ) (n : ℕ) where
  pub cut_rows : (xs : List A) (end : List ℕ) → list_all (λ x. length (f x) == n) xs ≡ true → first_rows (length xs) n (flat_map f xs ++ end) ≡ map f xs
  cut_rows [] end h = refl
  cut_rows (x ∷ xs) end h =
      let parts = and_parts (length (f x) == n) (list_all (λ y. length (f y) == n) xs) h in
      let long = eqb-true (length (f x)) n parts.0 in
      let joined_up = append_assoc (f x) (flat_map f xs) end in
      let first : take n ((f x ++ flat_map f xs) ++ end) ≡ f x = ap (take n) joined_up ∙ ap (λ m. take m (f x ++ (flat_map f xs ++ end))) (sym long) ∙ take-append_seam (f x) (flat_map f xs ++ end) in
      let rest : drop n ((f x ++ flat_map f xs) ++ end) ≡ flat_map f xs ++ end = ap (drop n) joined_up ∙ ap (λ m. drop m (f x ++ (flat_map f xs ++ end))) (sym long) ∙ drop-append_seam (f x) (flat_map f xs ++ end) in
      ap (λ r. r ∷ first_rows (length xs) n (drop n ((f x ++ flat_map f xs) ++ end))) first
      ∙ ap (λ es. f x ∷ first_rows (length xs) n es) rest ∙ ap (λ rs. f x ∷ rs) (cut_rows xs end parts.1)

  pub rows_long : (xs : List A) → list_all (λ x. length (f x) == n) xs ≡ true → length (flat_map f xs) ≡ n * length xs
  rows_long [] h = omega arith
  rows_long (x ∷ xs) h =
      let parts = and_parts (length (f x) == n) (list_all (λ y. length (f y) == n) xs) h in
      let long = eqb-true (length (f x)) n parts.0 in
      let more = rows_long xs parts.1 in
      length-append (f x) (flat_map f xs) ∙ ap (λ m. m + length (flat_map f xs)) long ∙ ap (λ m. n + m) more ∙ omega (arith, mul-suc n (length xs))

  pub past_rows : (xs : List A) (end : List ℕ) → list_all (λ x. length (f x) == n) xs ≡ true → drop (n * length xs) (flat_map f xs ++ end) ≡ end
  past_rows xs end h = ap (λ m. drop m (flat_map f xs ++ end)) (sym (rows_long xs h)) ∙ drop-append_seam (flat_map f xs) end

  pub rows_to_end : (xs : List A) (end : List ℕ) → length end < n → list_all (λ x. length (f x) == n) xs ≡ true →
      rows_before end n (flat_map f xs ++ end) ≡ Some (map f xs)
  rows_to_end xs end k h =
      let long : length (flat_map f xs ++ end) ≡ length xs * n + length end = length-append (flat_map f xs) end ∙ ap (λ m. m + length end) (rows_long xs h ∙ mul_comm n (length xs)) in
      let count : length (flat_map f xs ++ end) / n ≡ length xs = ap (λ m. m / n) long ∙ div-mul-add (length xs) n (length end) k in
      ap (λ c. if same (drop (n * c) (flat_map f xs ++ end)) end then Some (first_rows c n (flat_map f xs ++ end)) else None) count
      ∙ ap (λ es. if same es end then Some (first_rows (length xs) n (flat_map f xs ++ end)) else None) (past_rows xs end h)
      ∙ ap (λ (b : Bool). if b then Some (first_rows (length xs) n (flat_map f xs ++ end)) else None) (same_self end)
      ∙ ap (λ rs. Some rs) (cut_rows xs end h)
