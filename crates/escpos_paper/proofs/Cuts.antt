-- What one more entry does to the rows.
use Rattle.std.proofs.Common.{◌≡◌, ℕ, List, [], ◌∷◌, ◌++◌, length, refl, sym, ◌∙◌, ap, append-nil, arith, Bool, true, false, cond, suc}
use Rattle.std.specs.Prelude.{nat_lt}
use Rattle.std.proofs.Math.Seq.{append_snoc}
use Rattle.std.proofs.lemmas.Grind.{flat_map-append}
use Rattle.std.proofs.lemmas.Bool.Decides.{nat_tests}
use Rattle.escpos_paper.specs.declared.item.Item.{Item}
use Rattle.escpos_paper.specs.declared.style.LineStyle.{LineStyle}
use Rattle.escpos_paper.specs.Styles.{is_empty}
use Rattle.escpos_paper.specs.Cells.{Entry, bytes_of_entry, placed_row, put, go}
use Rattle.escpos_command.specs.Settings.{last_or}
use Rattle.escpos_paper.specs.Rows.{row_fits}
use Rattle.escpos_paper.proofs.Entries.{characters_in, moves_fit, one_entry_fits, some_character}
use Rattle.escpos_paper.proofs.Filled.{filled_from, filled}
use Rattle.escpos_paper.specs.Printed.{row_and_feed}

-- A row with one more entry, or a row of this one where it doesn't fit.
abbrev pub lengthened : ℕ → List Entry → Entry → List Entry
lengthened w row x = cond (row_fits w (row ++ x ∷ [])) (row ++ x ∷ []) (x ∷ [])

-- What is printed where a row ends.
abbrev pub row_items : LineStyle → List Entry → List Item
row_items lines row = row_and_feed lines (placed_row row).cells

-- Of rows that hold at least one, the last doesn't depend on the value that stands in for it.
pub last_any : (w : ℕ) (a b row : List Entry) (xs : List Entry) → last_or a (filled_from w row xs) ≡ last_or b (filled_from w row xs)
last_any w a b row [] = refl
last_any w a b row (x ∷ xs) =
    elim (row_fits w (row ++ x ∷ [])) as (λ v. last_or a (cond v (filled_from w (row ++ x ∷ []) xs) (row ∷ filled_from w (x ∷ []) xs)) ≡ last_or b (cond v (filled_from w (row ++ x ∷ []) xs) (row ∷ filled_from w (x ∷ []) xs))) [
      | true ↦ last_any w a b (row ++ x ∷ []) xs
      | false ↦ refl
    ]

-- One more entry goes into the last row, or begins a new row where it doesn't fit.
last_from : (w : ℕ) (row xs : List Entry) (x : Entry) → last_or [] (filled_from w row (xs ++ x ∷ [])) ≡ lengthened w (last_or [] (filled_from w row xs)) x
last_from w row [] x =
    elim (row_fits w (row ++ x ∷ [])) as (λ v. last_or [] (cond v ((row ++ x ∷ []) ∷ []) (row ∷ (x ∷ []) ∷ [])) ≡ cond v (row ++ x ∷ []) (x ∷ [])) [
      | true ↦ refl
      | false ↦ refl
    ]
last_from w row (y ∷ xs) x =
    elim (row_fits w (row ++ y ∷ [])) as (λ v. last_or [] (cond v (filled_from w (row ++ y ∷ []) (xs ++ x ∷ [])) (row ∷ filled_from w (y ∷ []) (xs ++ x ∷ [])))
    ≡ lengthened w (last_or [] (cond v (filled_from w (row ++ y ∷ []) xs) (row ∷ filled_from w (y ∷ []) xs))) x) [
      | true ↦ last_from w (row ++ y ∷ []) xs x
      | false ↦ last_any w row [] (y ∷ []) (xs ++ x ∷ []) ∙ last_from w (y ∷ []) xs x ∙ ap (λ r. lengthened w r x) (last_any w [] row (y ∷ []) xs)
    ]

pub last-snoc : (w : ℕ) (xs : List Entry) (x : Entry) → last_or [] (filled w (xs ++ x ∷ [])) ≡ lengthened w (last_or [] (filled w xs)) x
last-snoc w [] x = sym (ap (λ v. cond v (x ∷ []) (x ∷ [])) (one_entry_fits w x))
last-snoc w (y ∷ xs) x = last_from w (y ∷ []) xs x

suc_cond : (b : Bool) (n : ℕ) → suc (cond b n (suc n)) ≡ cond b (suc n) (suc (suc n))
suc_cond true n = refl
suc_cond false n = refl

-- There is one more row exactly where the entry doesn't fit.
count_from : (w : ℕ) (row xs : List Entry) (x : Entry)
    → length (filled_from w row (xs ++ x ∷ [])) ≡ cond (row_fits w (last_or [] (filled_from w row xs) ++ x ∷ [])) (length (filled_from w row xs)) (suc (length (filled_from w row xs)))
count_from w row [] x =
    elim (row_fits w (row ++ x ∷ [])) as (λ v. length (cond v ((row ++ x ∷ []) ∷ []) (row ∷ (x ∷ []) ∷ [])) ≡ cond v 1 2) [
      | true ↦ refl
      | false ↦ refl
    ]
count_from w row (y ∷ xs) x =
    elim (row_fits w (row ++ y ∷ [])) as (λ v. length (cond v (filled_from w (row ++ y ∷ []) (xs ++ x ∷ [])) (row ∷ filled_from w (y ∷ []) (xs ++ x ∷ [])))
    ≡ cond (row_fits w (last_or [] (cond v (filled_from w (row ++ y ∷ []) xs) (row ∷ filled_from w (y ∷ []) xs)) ++ x ∷ []))
    (length (cond v (filled_from w (row ++ y ∷ []) xs) (row ∷ filled_from w (y ∷ []) xs)))
    (suc (length (cond v (filled_from w (row ++ y ∷ []) xs) (row ∷ filled_from w (y ∷ []) xs))))) [
      | true ↦ count_from w (row ++ y ∷ []) xs x
      | false ↦
          ap suc (count_from w (y ∷ []) xs x)
          ∙ suc_cond (row_fits w (last_or [] (filled_from w (y ∷ []) xs) ++ x ∷ [])) (length (filled_from w (y ∷ []) xs))
          ∙ ap (λ r. cond (row_fits w (r ++ x ∷ [])) (suc (length (filled_from w (y ∷ []) xs))) (suc (suc (length (filled_from w (y ∷ []) xs))))) (last_any w [] row (y ∷ []) xs)
    ]

not_below : (n : ℕ) → nat_lt n n ≡ false
not_below n = grind (arith, nat_tests)

below_next : (n : ℕ) → nat_lt n (suc n) ≡ true
below_next n = grind (arith, nat_tests)

prints_or_not : (b : Bool) (n : ℕ) (items : List Item) → cond (nat_lt n (cond b n (suc n))) items [] ≡ cond b [] items
prints_or_not true n items = ap (λ v. cond v items []) (not_below n)
prints_or_not false n items = ap (λ v. cond v items []) (below_next n)

-- So whether a character prints the row before it depends on whether it fits.
pub begins_row : (w : ℕ) (lines : LineStyle) (xs : List Entry) (x : Entry)
    → cond (nat_lt (length (filled w xs)) (length (filled w (xs ++ x ∷ [])))) (row_items lines (last_or [] (filled w xs))) []
    ≡ cond (row_fits w (last_or [] (filled w xs) ++ x ∷ [])) [] (row_items lines (last_or [] (filled w xs)))
begins_row w lines [] x = sym (ap (λ v. cond v [] []) (one_entry_fits w x))
begins_row w lines (y ∷ xs) x =
    ap (λ n. cond (nat_lt (length (filled w (y ∷ xs))) n) (row_items lines (last_or [] (filled w (y ∷ xs)))) []) (count_from w (y ∷ []) xs x)
    ∙ prints_or_not (row_fits w (last_or [] (filled w (y ∷ xs)) ++ x ∷ [])) (length (filled w (y ∷ xs))) (row_items lines (last_or [] (filled w (y ∷ xs))))

-- ## The last row

-- It fits.
last_from_fits : (w : ℕ) (row xs : List Entry) → row_fits w row ≡ true → row_fits w (last_or [] (filled_from w row xs)) ≡ true
last_from_fits w row [] h = h
last_from_fits w row (x ∷ xs) h =
    by_fit (row_fits w (row ++ x ∷ [])) refl (λ e. last_from_fits w (row ++ x ∷ []) xs e) (last_from_fits w (x ∷ []) xs (one_entry_fits w x))
  where
    by_fit : (v : Bool) → row_fits w (row ++ x ∷ []) ≡ v
        → (row_fits w (row ++ x ∷ []) ≡ true → row_fits w (last_or [] (filled_from w (row ++ x ∷ []) xs)) ≡ true)
        → row_fits w (last_or [] (filled_from w (x ∷ []) xs)) ≡ true
        → row_fits w (last_or [] (cond v (filled_from w (row ++ x ∷ []) xs) (row ∷ filled_from w (x ∷ []) xs))) ≡ true
    by_fit true e further begun = further e
    by_fit false e further begun = ap (row_fits w) (last_any w row [] (x ∷ []) xs) ∙ begun

pub last_fits : (w : ℕ) (xs : List Entry) → row_fits w (last_or [] (filled w xs)) ≡ true
last_fits w [] = refl
last_fits w (x ∷ xs) = last_from_fits w (x ∷ []) xs (one_entry_fits w x)

-- It has a character where there is one at all: only a character begins a further row.
last_characters_from : (w : ℕ) (d row xs : List Entry) → row_fits w row ≡ true
    → is_empty (characters_in (last_or d (filled_from w row xs))) ≡ is_empty (characters_in (row ++ xs))
last_characters_from w d row [] h = ap (λ es. is_empty (characters_in es)) (sym (append-nil row))
last_characters_from w d row (x ∷ xs) h =
    by_fit x (row_fits w (row ++ x ∷ [])) refl (λ e. last_characters_from w d (row ++ x ∷ []) xs e) (last_characters_from w row (x ∷ []) xs (one_entry_fits w x))
  where
    by_fit : (y : Entry) (v : Bool) → row_fits w (row ++ y ∷ []) ≡ v
        → (row_fits w (row ++ y ∷ []) ≡ true → is_empty (characters_in (last_or d (filled_from w (row ++ y ∷ []) xs))) ≡ is_empty (characters_in ((row ++ y ∷ []) ++ xs)))
        → is_empty (characters_in (last_or row (filled_from w (y ∷ []) xs))) ≡ is_empty (characters_in (y ∷ xs))
        → is_empty (characters_in (last_or d (cond v (filled_from w (row ++ y ∷ []) xs) (row ∷ filled_from w (y ∷ []) xs)))) ≡ is_empty (characters_in (row ++ y ∷ xs))
    by_fit y true e further begun = further e ∙ ap (λ es. is_empty (characters_in es)) (append_snoc row y xs)
    by_fit (put s b) false e further begun =
        begun ∙ sym (ap is_empty (flat_map-append bytes_of_entry row (put s b ∷ xs)) ∙ some_character (characters_in row) b (characters_in xs))
    by_fit (go area m) false e further begun = let clash : true ≡ false = sym (moves_fit w row area m h) ∙ e in absurd cc

pub last_characters : (w : ℕ) (xs : List Entry) → is_empty (characters_in (last_or [] (filled w xs))) ≡ is_empty (characters_in xs)
last_characters w [] = refl
last_characters w (x ∷ xs) = last_characters_from w [] (x ∷ []) xs (one_entry_fits w x)
