-- What a table has for a name, row by row. A row of the code has a reference to its name.
use Rattle.std.proofs.Common.{◌≡◌, ℕ, suc, ◌+◌, ◌<◌, ◌≤◌, true, false, List, ◌∷◌, length, drop, get_or, map, Option, Some, None, Bor, cond, sym, ◌∙◌, ap, add-one}
use Rattle.std.specs.Prelude.{option_map, find}
use Rattle.std.specs.Str.{bytes_eq}
use Rattle.std.proofs.Math.Seq.{drop-cons}
use Rattle.std.proofs.lemmas.List.{drop_all}
use Rattle.escpos_receipt.specs.Entries.{named}

-- What the rows of the code have for a name.
abbrev pub named_in : {X : Type 0} → List (Bor (List ℕ) × X) → List ℕ → Option X
named_in {X} rows name = named (map (λ (row : Bor (List ℕ) × X). (row.0.now, row.1)) rows) name

rest_at : {X : Type 0} (rows : List (Bor (List ℕ) × X)) (i : ℕ) (row : Bor (List ℕ) × X) → i < length rows → row ≡ get_or rows i row
    → drop i rows ≡ row ∷ drop (i + 1) rows
rest_at rows i row h e = drop-cons rows i row h ∙ ap (λ r. r ∷ drop (suc i) rows) (sym e) ∙ ap (λ n. row ∷ drop n rows) (sym (add-one i))

abbrev value_of : {X : Type 0} → Option (List ℕ × X) → Option X
value_of o = option_map (λ r. r.1) o

pub found : {X : Type 0} (rows : List (Bor (List ℕ) × X)) (i : ℕ) (row : Bor (List ℕ) × X) (name : List ℕ) → i < length rows → row ≡ get_or rows i row
    → bytes_eq row.0.now name ≡ true → named_in (drop i rows) name ≡ Some row.1
found {X} rows i row name h e same =
    ap (λ rest. named_in rest name) (rest_at rows i row h e)
    ∙ ap (λ b. value_of (cond b (Some (row.0.now, row.1)) (find (λ r. bytes_eq r.0 name) (map (λ (r : Bor (List ℕ) × X). (r.0.now, r.1)) (drop (i + 1) rows))))) same

pub passed : {X : Type 0} (rows : List (Bor (List ℕ) × X)) (i : ℕ) (row : Bor (List ℕ) × X) (name : List ℕ) → i < length rows → row ≡ get_or rows i row
    → bytes_eq row.0.now name ≡ false → named_in (drop i rows) name ≡ named_in (drop (i + 1) rows) name
passed {X} rows i row name h e other =
    ap (λ rest. named_in rest name) (rest_at rows i row h e)
    ∙ ap (λ b. value_of (cond b (Some (row.0.now, row.1)) (find (λ r. bytes_eq r.0 name) (map (λ (r : Bor (List ℕ) × X). (r.0.now, r.1)) (drop (i + 1) rows))))) other

pub none_left : {X : Type 0} (rows : List (Bor (List ℕ) × X)) (i : ℕ) (name : List ℕ) → length rows ≤ i → named_in (drop i rows) name ≡ None
none_left rows i name h = ap (λ rest. named_in rest name) (drop_all i rows h)
