-- Entries of a line, and the cells that they make.
use Rattle.std.proofs.Common.{◌≡◌, ℕ, List, [], ◌∷◌, ◌++◌, refl, sym, ◌∙◌, ap, subst, append_assoc, append-nil, true, false}
use Rattle.std.specs.Prelude.{flat_map}
use Rattle.std.proofs.Math.Seq.{append_snoc}
use Rattle.escpos_paper.specs.declared.cell.Cell.{Cell}
use Rattle.escpos_paper.specs.Cells.{Entry, Move, Placed, bytes_of_entry, cell, go, nothing_placed, placed_cell, placed_row, put, with_entries, with_entry}
use Rattle.escpos_paper.specs.Rows.{fits, row_fits}
use Rattle.escpos_paper.specs.Styles.{is_empty}
use Rattle.escpos_paper.proofs.Fits.{front_fits}

-- ## One more entry

with_one_more : (p : Placed) (es : List Entry) (e : Entry) → with_entries p (es ++ e ∷ []) ≡ with_entry (with_entries p es) e
with_one_more p [] e = refl
with_one_more p (d ∷ es) e = with_one_more (with_entry p d) es e

pub snoc_entry : (es : List Entry) (e : Entry) → placed_row (es ++ e ∷ []) ≡ with_entry (placed_row es) e
snoc_entry es e = with_one_more nothing_placed es e

-- Entries only add cells.
record Added (old new : Placed) : Type 0 where
  more : List Cell
  is : new.cells ≡ old.cells ++ more

added_by : (p : Placed) (e : Entry) → Added p (with_entry p e)
added_by p (put s b) = record { more = placed_cell p.moved (cell s b) ∷ []; is = refl }
added_by p (go area m) = record { more = []; is = sym (append-nil p.cells) }

added : (p : Placed) (es : List Entry) → Added p (with_entries p es)
added p [] = record { more = []; is = sym (append-nil p.cells) }
added p (e ∷ es) =
    let first = added_by p e in
    let rest = added (with_entry p e) es in
    record { more = first.more ++ rest.more; is = rest.is ∙ ap (λ t. t ++ rest.more) first.is ∙ append_assoc p.cells first.more rest.more }

in_two : (p : Placed) (es more : List Entry) → with_entries p (es ++ more) ≡ with_entries (with_entries p es) more
in_two p [] more = refl
in_two p (e ∷ es) more = in_two (with_entry p e) es more

-- ## Fitting

-- An entry alone fits.
pub one_entry_fits : (w : ℕ) (e : Entry) → row_fits w (e ∷ []) ≡ true
one_entry_fits w (put s b) = refl
one_entry_fits w (go area m) = refl

-- A prefix of a row that fits, fits.
pub prefix_fits : (w : ℕ) (row : List Entry) (e : Entry) (more : List Entry) → row_fits w (row ++ e ∷ more) ≡ true → row_fits w (row ++ e ∷ []) ≡ true
prefix_fits w row e more h =
    let front = placed_row (row ++ e ∷ []) in
    let rest = added front more in
    let whole : (placed_row (row ++ e ∷ more)).cells ≡ front.cells ++ rest.more =
    ap (λ r. (placed_row r).cells) (sym (append_snoc row e more)) ∙ ap (λ (p : Placed). p.cells) (in_two nothing_placed (row ++ e ∷ []) more) ∙ rest.is in
    front_fits w front.cells rest.more (subst (λ r. fits w r ≡ true) whole h)

-- A move never makes a row too wide.
pub moves_fit : (w : ℕ) (row : List Entry) (area : ℕ) (m : Move) → row_fits w row ≡ true → row_fits w (row ++ go area m ∷ []) ≡ true
moves_fit w row area m h = ap (λ (p : Placed). fits w p.cells) (snoc_entry row (go area m)) ∙ h

-- ## Characters

abbrev pub characters_in : List Entry → List ℕ
characters_in es = flat_map bytes_of_entry es

not_empty : (row : List Cell) (x : Cell) → is_empty (row ++ x ∷ []) ≡ false
not_empty [] x = refl
not_empty (y ∷ row) x = refl

stays_filled : (p : Placed) (es : List Entry) → is_empty p.cells ≡ false → is_empty (with_entries p es).cells ≡ false
stays_filled p [] h = h
stays_filled p (put s b ∷ es) h = stays_filled (with_entry p (put s b)) es (not_empty p.cells (placed_cell p.moved (cell s b)))
stays_filled p (go area m ∷ es) h = stays_filled (with_entry p (go area m)) es h

empty_from : (p : Placed) (es : List Entry) → is_empty p.cells ≡ true → is_empty (with_entries p es).cells ≡ is_empty (characters_in es)
empty_from p [] h = h
empty_from p (put s b ∷ es) h = stays_filled (with_entry p (put s b)) es (not_empty p.cells (placed_cell p.moved (cell s b)))
empty_from p (go area m ∷ es) h = empty_from (with_entry p (go area m)) es h

-- A row has a cell where there is a character.
pub empty_row : (es : List Entry) → is_empty (placed_row es).cells ≡ is_empty (characters_in es)
empty_row es = empty_from nothing_placed es refl

-- A character among others.
pub some_character : {X : Type 0} (xs : List X) (b : X) (more : List X) → is_empty (xs ++ b ∷ more) ≡ false
some_character [] b more = refl
some_character (x ∷ xs) b more = refl
