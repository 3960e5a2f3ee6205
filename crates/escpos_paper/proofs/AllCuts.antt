-- Of all ways to cut the entries of a line into rows, the one at its width is the one that filling finds.
use Rattle.std.proofs.Common.{◌≡◌, ◌≢◌, ℕ, List, [], ◌∷◌, ◌++◌, refl, sym, ◌∙◌, ap, subst, append_assoc, Bool, true, false, cond, filter}
use Rattle.std.specs.Prelude.{flat_map}
use Rattle.std.specs.List.{AllByRecursion}
use Rattle.std.proofs.lemmas.List.Concat.{flat_map-append}
use Rattle.std.proofs.lemmas.List.Elements.{filter-append}
use Rattle.escpos_command.specs.declared.command.Command.{Command}
use Rattle.escpos_command.specs.Settings.{last_or}
use Rattle.escpos_paper.specs.Cells.{Entry, entries}
use Rattle.escpos_paper.specs.Rows.{IsCut, area, is_at_width, with_first, cuts, rows}
use Rattle.escpos_paper.proofs.Filled.{filled}
use Rattle.escpos_paper.proofs.OneCut.{is_cut, one_cut}

-- ## Each way to cut is in the list

record Holds {X : Type 0} (xs : List X) (x : X) : Type 0 where
  pub front : List X
  pub back : List X
  pub is : xs ≡ front ++ x ∷ back

holds_flat : {X Y : Type 0} (f : X → List Y) (xs : List X) (x : X) (y : Y) → Holds xs x → Holds (f x) y → Holds (flat_map f xs) y
holds_flat f xs x y h k = record {
  front = flat_map f h.front ++ k.front;
  back = k.back ++ flat_map f h.back;
  is =
      ap (flat_map f) h.is ∙ flat_map-append f h.front (x ∷ h.back)
      ∙ ap (λ t. flat_map f h.front ++ (t ++ flat_map f h.back)) k.is
      ∙ ap (λ t. flat_map f h.front ++ t) (append_assoc k.front (y ∷ k.back) (flat_map f h.back))
      ∙ sym (append_assoc (flat_map f h.front) k.front (y ∷ k.back ++ flat_map f h.back));
}

alone : (x : Entry) (rows : List (List Entry)) → Holds (with_first x rows) ((x ∷ []) ∷ rows)
alone x [] = record { front = []; back = []; is = refl }
alone x (row ∷ rows) = record { front = ((x ∷ row) ∷ rows) ∷ []; back = []; is = refl }

joins_next : (x : Entry) (row : List Entry) (rows : List (List Entry)) → Holds (with_first x (row ∷ rows)) ((x ∷ row) ∷ rows)
joins_next x row rows = record { front = []; back = ((x ∷ []) ∷ row ∷ rows) ∷ []; is = refl }

holds_row : (x : Entry) (row xs : List Entry) (rest : List (List Entry)) → Holds (cuts xs) rest → Holds (cuts (x ∷ row ++ xs)) ((x ∷ row) ∷ rest)
holds_row x [] xs rest h = holds_flat (with_first x) (cuts xs) rest ((x ∷ []) ∷ rest) h (alone x rest)
holds_row x (y ∷ row) xs rest h =
    holds_flat (with_first x) (cuts (y ∷ row ++ xs)) ((y ∷ row) ∷ rest) ((x ∷ y ∷ row) ∷ rest)
    (holds_row y row xs rest h) (joins_next x (y ∷ row) rest)

holds_cut : (rows : List (List Entry)) → AllByRecursion (λ row. row ≢ []) rows → Holds (cuts (flat_map (λ row. row) rows)) rows
holds_cut [] h = record { front = []; back = []; is = refl }
holds_cut ([] ∷ rows) h = absurd (h.0 refl)
holds_cut ((x ∷ row) ∷ rows) h = holds_row x row (flat_map (λ r. r) rows) rows (holds_cut rows h.1)

-- ## And nothing else

all_append : {X : Type 0} (P : X → Type 0) (xs ys : List X) → AllByRecursion P xs → AllByRecursion P ys → AllByRecursion P (xs ++ ys)
all_append P [] ys h k = k
all_append P (x ∷ xs) ys h k = (h.0, all_append P xs ys h.1 k)

all_flat : {X Y : Type 0} (P : X → Type 0) (Q : Y → Type 0) (f : X → List Y) → ((x : X) → P x → AllByRecursion Q (f x)) → (xs : List X)
    → AllByRecursion P xs → AllByRecursion Q (flat_map f xs)
all_flat P Q f each [] h = tt
all_flat P Q f each (x ∷ xs) h = all_append Q (f x) (flat_map f xs) (each x h.0) (all_flat P Q f each xs h.1)

record Joins (xs : List Entry) (rows : List (List Entry)) : Type 0 where
  pub joined : flat_map (λ row. row) rows ≡ xs
  pub each : AllByRecursion (λ row. row ≢ []) rows

some_cell : (x : Entry) (row : List Entry) → x ∷ row ≢ []
some_cell x row e = absurd cc

first_joins : (x : Entry) (xs : List Entry) (rows : List (List Entry)) → Joins xs rows → AllByRecursion (Joins (x ∷ xs)) (with_first x rows)
first_joins x xs [] h = (record { joined = ap (λ t. x ∷ t) h.joined; each = (some_cell x [], tt) }, tt)
first_joins x xs (row ∷ rest) h = (
  record { joined = ap (λ t. x ∷ t) h.joined; each = (some_cell x row, h.each.1) },
  (record { joined = ap (λ t. x ∷ t) h.joined; each = (some_cell x [], h.each) }, tt),
)

cuts_join : (xs : List Entry) → AllByRecursion (Joins xs) (cuts xs)
cuts_join [] = (record { joined = refl; each = tt }, tt)
cuts_join (x ∷ xs) = all_flat (Joins xs) (Joins (x ∷ xs)) (with_first x) (first_joins x xs) (cuts xs) (cuts_join xs)

-- ## So the one that passes is the cut

passing : (w : ℕ) (xs : List Entry) (found rows : List (List Entry)) (more : List (List (List Entry))) (b : Bool) → IsCut w xs found → Joins xs rows
    → is_at_width w rows ≡ b → AllByRecursion (λ r. r ≡ found) more → AllByRecursion (λ r. r ≡ found) (cond b (rows ∷ more) more)
passing w xs found rows more true h j e k = (one_cut w xs rows found (record { joined = j.joined; each = j.each; at_width = e }) h, k)
passing w xs found rows more false h j e k = k

all_found : (w : ℕ) (xs : List Entry) (found : List (List Entry)) (all : List (List (List Entry))) → IsCut w xs found → AllByRecursion (Joins xs) all
    → AllByRecursion (λ r. r ≡ found) (filter (is_at_width w) all)
all_found w xs found [] h k = tt
all_found w xs found (rows ∷ all) h k =
    passing w xs found rows (filter (is_at_width w) all) (is_at_width w rows) h k.0 refl (all_found w xs found all h k.1)

last_found : (start found : List (List Entry)) (all : List (List (List Entry))) → start ≡ found → AllByRecursion (λ r. r ≡ found) all
    → last_or start all ≡ found
last_found start found [] e h = e
last_found start found (rows ∷ all) e h = last_found rows found all h.0 h.1

found_last : (found : List (List Entry)) (all front back : List (List (List Entry))) → all ≡ front ++ found ∷ back
    → AllByRecursion (λ r. r ≡ found) all → last_or [] all ≡ found
found_last found [] [] back e h = absurd cc
found_last found [] (r ∷ front) back e h = absurd cc
found_last found (rows ∷ all) front back e h = last_found rows found all h.0 h.1

found_passes : (w : ℕ) (found : List (List Entry)) (all : List (List (List Entry))) (h : Holds all found) → is_at_width w found ≡ true
    → filter (is_at_width w) all ≡ filter (is_at_width w) h.front ++ found ∷ filter (is_at_width w) h.back
found_passes w found all h e =
    ap (filter (is_at_width w)) h.is ∙ filter-append (is_at_width w) h.front (found ∷ h.back)
    ∙ ap (λ b. filter (is_at_width w) h.front ++ cond b (found ∷ filter (is_at_width w) h.back) (filter (is_at_width w) h.back)) e

the_cut : (w : ℕ) (xs : List Entry) (found : List (List Entry)) → IsCut w xs found → Holds (cuts xs) found → last_or [] (filter (is_at_width w) (cuts xs)) ≡ found
the_cut w xs found h k =
    found_last found (filter (is_at_width w) (cuts xs)) (filter (is_at_width w) k.front) (filter (is_at_width w) k.back)
    (found_passes w found (cuts xs) k h.at_width) (all_found w xs found (cuts xs) h (cuts_join xs))

held : (w : ℕ) (xs : List Entry) (found : List (List Entry)) → IsCut w xs found → Holds (cuts xs) found
held w xs found h = subst (λ t. Holds (cuts t) found) h.joined (holds_cut found h.each)

filled_of : (w : ℕ) (xs : List Entry) → last_or [] (filter (is_at_width w) (cuts xs)) ≡ filled w xs
filled_of w xs = the_cut w xs (filled w xs) (is_cut w xs) (held w xs (filled w xs) (is_cut w xs))

pub rows_filled : (w : ℕ) (cs : List Command) → rows w cs ≡ filled (area w cs) (entries w cs)
rows_filled w cs = filled_of (area w cs) (entries w cs)

pub rows_cut : (w : ℕ) (cs : List Command) → IsCut (area w cs) (entries w cs) (rows w cs)
rows_cut w cs = subst (IsCut (area w cs) (entries w cs)) (sym (rows_filled w cs)) (is_cut (area w cs) (entries w cs))
