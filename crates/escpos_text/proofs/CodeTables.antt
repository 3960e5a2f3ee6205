-- What is computed of the tables: those of the code are those of the specs, with an index each.
use Rattle.std.proofs.Common.{◌≡◌, ℕ, ◌<◌, ◌≤◌, Bool, true, ◌&&◌, ◌==◌, nat_lt, cond, List, [], ◌∷◌, length, get_or, slice_index, refl, sym, ap, subst, ◌∙◌, arith, eqb-true, ltb-true, lt-ltb, le-ltb, ne_eqb}
use Rattle.std.specs.Prelude.{bytes_eq}
use Rattle.std.specs.List.{list_all, range_with_len}
use Rattle.std.specs.Cmp.Lexicographic.{bytes_decides}
use Rattle.std.proofs.lemmas.Bool.{and_parts, cond-true, cond-false}
use Rattle.std.proofs.lemmas.List.Sums.{AllPass-from_list_all}
use Rattle.std.proofs.lemmas.List.FromFn.{get_or-range_with_len, length-range_with_len}
use Rattle.escpos_text.specs.declared.tables.Index.{Index}
use Rattle.escpos_text.specs.declared.tables.TheConstants.{TABLES, INDEXES, PLACES}
use Rattle.escpos_text.specs.CodeTables.{code_tables, table_among, characters_of}
use Rattle.escpos_text.specs.Index.{ascends, are_first, is_index}
use Rattle.escpos_text.specs.TablePlaces.{IsPlaceOf}

-- What a test says of each number below a bound.
pub below_all : (test : ℕ → Bool) (bound n : ℕ) → list_all test (range_with_len 0 bound) ≡ true → n < bound → test n ≡ true
below_all test bound n h lt =
    let at : test (get_or (range_with_len 0 bound) n 0) ≡ true = AllPass-from_list_all test (range_with_len 0 bound) h n 0 (rw length-range_with_len lt) in
    let is : get_or (range_with_len 0 bound) n 0 ≡ n = get_or-range_with_len 0 bound n 0 lt ∙ omega arith in
    subst (λ k. test k ≡ true) is at

-- The place of each number leads to its table, or it has none.
unfoldable table_fits : ℕ → Bool
table_fits n =
    cond (nat_lt (slice_index PLACES n) 32)
    (bytes_eq (get_or TABLES (slice_index PLACES n) []) (characters_of n) && (length (characters_of n) == 128))
    (bytes_eq (characters_of n) [])

tables_fit : list_all table_fits (range_with_len 0 54) ≡ true
unfolding table_fits characters_of code_tables
tables_fit = refl

-- The index of each table is one of it.
abbrev pub empty : Index
empty = record { sorted = []; places = [] }

unfoldable index_fits : ℕ → Bool
index_fits n =
    cond (nat_lt (slice_index PLACES n) 32)
    (is_index (characters_of n) (get_or INDEXES (slice_index PLACES n) empty).sorted (get_or INDEXES (slice_index PLACES n) empty).places)
    true

indexes_fit : list_all index_fits (range_with_len 0 54) ≡ true
unfolding index_fits characters_of code_tables is_index ascends are_first
indexes_fit = refl

pub table-at : (n place : ℕ) → IsPlaceOf place n → (get_or TABLES place [] ≡ characters_of n) × (length (get_or TABLES place []) ≡ 128)
unfolding table_fits
table-at n place is =
    let within : slice_index PLACES n < 32 = omega (arith, is.1, is.2) in
    let parts = and_parts _ _ (sym (cond-true _ _ _ (lt-ltb _ _ within)) ∙ below_all table_fits 54 n tables_fit is.0) in
    let same : get_or TABLES place [] ≡ characters_of n = ap (λ p. get_or TABLES p []) (sym is.2) ∙ (bytes_decides _ _).0 parts.0 in
    (same, ap length same ∙ eqb-true _ _ parts.1)

pub index-at : (n place : ℕ) → IsPlaceOf place n → is_index (characters_of n) (get_or INDEXES place empty).sorted (get_or INDEXES place empty).places ≡ true
unfolding index_fits
index-at n place is =
    let within : slice_index PLACES n < 32 = omega (arith, is.1, is.2) in
    ap (λ p. is_index (characters_of n) (get_or INDEXES p empty).sorted (get_or INDEXES p empty).places) (sym is.2)
    ∙ sym (cond-true _ _ _ (lt-ltb _ _ within))
    ∙ below_all index_fits 54 n indexes_fit is.0

pub none : (n : ℕ) → n < 54 → 32 ≤ slice_index PLACES n → characters_of n ≡ []
unfolding table_fits
none n lt place = (bytes_decides _ _).0 (sym (cond-false _ _ _ (le-ltb _ _ place)) ∙ below_all table_fits 54 n tables_fit lt)

-- The numbers of the tables are below 54.
numbers_below : list_all (λ (table : ℕ × List ℕ). nat_lt table.0 54) code_tables ≡ true
unfolding code_tables
numbers_below = refl

among_none : (tables : List (ℕ × List ℕ)) (n : ℕ) → list_all (λ (table : ℕ × List ℕ). nat_lt table.0 54) tables ≡ true → 54 ≤ n → table_among tables n ≡ []
among_none [] n h le = refl
among_none (table ∷ tables) n h le =
    let parts = and_parts _ _ h in
    let below : table.0 < 54 = ltb-true _ _ parts.0 in
    cond-false _ _ _ (ne_eqb _ _ (λ (same : table.0 ≡ n). absurd (omega arith))) ∙ among_none tables n parts.1 le

pub unknown : (n : ℕ) → 54 ≤ n → characters_of n ≡ []
unfolding characters_of
unknown n le = among_none code_tables n numbers_below le
