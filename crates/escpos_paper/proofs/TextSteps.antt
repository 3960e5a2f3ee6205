-- Characters of one style that fit in the line, carried out one after another.
use Rattle.std.proofs.Common.{◌≡◌, ℕ, ◌≤◌, List, [], ◌∷◌, ◌++◌, length, map, refl, sym, ◌∙◌, ap, subst, take, get_or, append_assoc, append-nil, arith, Bool, true, false, None, if◌then◌else◌}
use Rattle.std.specs.Prelude.{IsTrue}
use Rattle.escpos_command.specs.declared.command.Command.TheVariants.{Char}
use Rattle.escpos_paper.specs.declared.cell.Cell.{Cell}
use Rattle.escpos_paper.specs.declared.item.Item.{Item}
use Rattle.escpos_paper.specs.Cells.{Placed, cell}
use Rattle.escpos_paper.specs.Page.{Sheet}
use Rattle.escpos_paper.specs.Printed.{row_and_feed}
use Rattle.escpos_paper.specs.Rows.{fits}
use Rattle.escpos_paper.specs.Steps.{area_of, has_room, sheet_after, sheet_after_all, with_cell}
use Rattle.escpos_paper.proofs.Fits.{prefix_fits}

-- The sheet with these items and this line, whose next cell follows the last.
abbrev pub with_text : Sheet → List Item → List Cell → Sheet
with_text sheet items row = record sheet { items = items; line = record { cells = row; moved = None } }

-- Its printing area.
abbrev pub area_on : Sheet → ℕ
area_on sheet = area_of sheet.line_dots sheet.settings

-- A character goes into the line, or begins the next.
char_step : (sheet : Sheet) (row : List Cell) (b : ℕ) (there : Bool) → sheet.line ≡ record { cells = row; moved = None }
    → fits (area_on sheet) (row ++ cell sheet.settings.text b ∷ []) ≡ there
    → sheet_after sheet (Char b) ≡ with_text sheet (sheet.items ++ (if there then [] else row_and_feed sheet.settings.lines row)) ((if there then row else []) ++ cell sheet.settings.text b ∷ [])
char_step sheet row b true l e = rw (l, e) refl
char_step sheet row b false l e = rw (l, e) refl

-- Characters that all fit go into the line.
in_line : (sheet : Sheet) (row : List Cell) (bs : List ℕ) → sheet.line ≡ record { cells = row; moved = None }
    → IsTrue (fits (area_on sheet) (row ++ map (cell sheet.settings.text) bs))
    → sheet_after_all sheet (map Char bs) ≡ with_text sheet sheet.items (row ++ map (cell sheet.settings.text) bs)
unfolding sheet_after_all
in_line sheet row [] l fit = rw l (ap (λ r. with_text sheet sheet.items r) (sym (append-nil row)))
in_line sheet row (b ∷ bs) l fit =
    let x = cell sheet.settings.text b in
    let first = char_step sheet row b true l (prefix_fits (area_on sheet) row x (map (cell sheet.settings.text) bs) fit) in
    let joined = append_assoc row (x ∷ []) (map (cell sheet.settings.text) bs) in
    let next = with_text sheet sheet.items (row ++ x ∷ []) in
    ap (λ s. sheet_after_all s (map Char bs)) (first ∙ ap (λ items. with_text sheet items (row ++ x ∷ [])) (append-nil sheet.items))
    ∙ in_line next (row ++ x ∷ []) bs refl (subst (λ r. IsTrue (fits (area_on sheet) r)) (sym joined) fit)
    ∙ ap (λ r. with_text sheet sheet.items r) joined

-- The same where the line is ended before them, unless the first fits.
pub text_steps : (sheet : Sheet) (old : List Cell) (items : List Item) (row : List Cell) (bs : List ℕ) → sheet.line ≡ record { cells = old; moved = None } → 1 ≤ length bs
    → ((b : ℕ) → items ≡ sheet.items ++ (if fits (area_on sheet) (old ++ cell sheet.settings.text b ∷ []) then [] else row_and_feed sheet.settings.lines old))
    → ((b : ℕ) → row ≡ (if fits (area_on sheet) (old ++ cell sheet.settings.text b ∷ []) then old else []))
    → IsTrue (fits (area_on sheet) (row ++ map (cell sheet.settings.text) bs))
    → with_text sheet items (row ++ map (cell sheet.settings.text) bs) ≡ sheet_after_all sheet (map Char bs)
unfolding sheet_after_all
text_steps sheet old items row [] l some printed left fit = absurd (omega arith)
text_steps sheet old items row (b ∷ bs) l some printed left fit =
    let x = cell sheet.settings.text b in
    let joined = append_assoc row (x ∷ []) (map (cell sheet.settings.text) bs) in
    let first : sheet_after sheet (Char b) ≡ with_text sheet items (row ++ x ∷ [])
    = rw (printed b, left b) (char_step sheet old b (fits (area_on sheet) (old ++ x ∷ [])) l refl) in
    sym (ap (λ s. sheet_after_all s (map Char bs)) first
    ∙ in_line (with_text sheet items (row ++ x ∷ [])) (row ++ x ∷ []) bs refl (subst (λ r. IsTrue (fits (area_on sheet) r)) (sym joined) fit)
    ∙ ap (λ r. with_text sheet items r) joined)

-- The same where the printing area goes by another name.
pub text_steps_in : (sheet : Sheet) (a : ℕ) (old : List Cell) (items : List Item) (row : List Cell) (bs : List ℕ) → a ≡ area_on sheet
    → sheet.line ≡ record { cells = old; moved = None } → 1 ≤ length bs
    → ((b : ℕ) → items ≡ sheet.items ++ (if fits a (old ++ cell sheet.settings.text b ∷ []) then [] else row_and_feed sheet.settings.lines old))
    → ((b : ℕ) → row ≡ (if fits a (old ++ cell sheet.settings.text b ∷ []) then old else []))
    → IsTrue (fits a (row ++ map (cell sheet.settings.text) bs))
    → with_text sheet items (row ++ map (cell sheet.settings.text) bs) ≡ sheet_after_all sheet (map Char bs)
text_steps_in sheet a old items row bs e l some printed left fit =
    text_steps sheet old items row bs l some
    (λ b. printed b ∙ ap (λ v. sheet.items ++ (if fits v (old ++ cell sheet.settings.text b ∷ []) then [] else row_and_feed sheet.settings.lines old)) e)
    (λ b. left b ∙ ap (λ v. if fits v (old ++ cell sheet.settings.text b ∷ []) then old else []) e)
    (subst (λ v. IsTrue (fits v (row ++ map (cell sheet.settings.text) bs))) e fit)

-- The first character where the next cell stands at a place of its own.
pub placed_step : (sheet : Sheet) (a : ℕ) (bs : List ℕ) (x : Cell) (items : List Item) (line : Placed) → a ≡ area_on sheet → 1 ≤ length bs
    → x ≡ cell sheet.settings.text (get_or bs 0 0)
    → items ≡ sheet.items ++ (if has_room a sheet.line x then [] else row_and_feed sheet.settings.lines sheet.line.cells)
    → line ≡ with_cell a sheet.line x
    → record sheet { items = items; line = line } ≡ sheet_after_all sheet (map Char (take 1 bs))
unfolding sheet_after_all
placed_step sheet a [] x items line e some here printed left = absurd (omega arith)
placed_step sheet a (b ∷ bs) x items line e some here printed left =
    let there = here ∙ refl in
    let as_printed = printed ∙ ap (λ v. sheet.items ++ (if has_room v sheet.line x then [] else row_and_feed sheet.settings.lines sheet.line.cells)) e
    ∙ ap (λ y. sheet.items ++ (if has_room (area_on sheet) sheet.line y then [] else row_and_feed sheet.settings.lines sheet.line.cells)) there in
    let as_left = left ∙ ap (λ v. with_cell v sheet.line x) e ∙ ap (λ y. with_cell (area_on sheet) sheet.line y) there in
    ap (λ i. record sheet { items = i; line = line }) as_printed
    ∙ ap (λ l. record sheet { items = sheet.items ++ (if has_room (area_on sheet) sheet.line (cell sheet.settings.text b) then [] else row_and_feed sheet.settings.lines sheet.line.cells); line = l }) as_left
