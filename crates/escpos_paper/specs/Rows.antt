-- The line cut into rows, for each width of the line in dots.
use Rattle.std.specs.Prelude.{ℕ, ◌≡◌, ◌≢◌, ◌&&◌, ◌||◌, max, nat_le, not, Bool, true, false, IsTrue, List, [], ◌∷◌, ◌++◌, Option, take, flat_map, filter}
use Rattle.std.specs.List.{AllByRecursion, list_all}
use Rattle.escpos_command.specs.declared.command.Command.{Command}
use Rattle.escpos_command.specs.declared.line_width.TheConstants.{MOST_LINE_DOTS}
use Rattle.escpos_paper.specs.declared.cell.Cell.{Cell}
use Rattle.escpos_command.specs.Settings.{last_or}
use Rattle.escpos_command.specs.Text.{is_some}
use Rattle.escpos_paper.specs.Dots.{area_dots}
use Rattle.escpos_paper.specs.Cells.{Entry, Placed, dots, entries, placed_row, reach_of}
use Rattle.escpos_paper.specs.Styles.{placing}

-- There is at most one cell, at the beginning of the line.
abbrev pub is_alone : List Cell → Bool
is_alone [] = true
is_alone (x ∷ []) = not (is_some x.moved)
is_alone _ = false

-- A row doesn't reach beyond the width, and its cells, which may stand over one another, take no more dots together than the widest line
-- has; or it has one cell alone: a character wider than the line has a row of its own. (Reference: GS W widens a print area narrower than a
-- character to one character.)
abbrev pub fits : ℕ → List Cell → Bool
fits width row = is_alone row || nat_le (reach_of row) width && nat_le (dots row) (max width MOST_LINE_DOTS)

-- A row of entries fits.
abbrev pub row_fits : ℕ → List Entry → Bool
row_fits width row = fits width (placed_row row).cells

-- Each row but the last wouldn't fit with the first entry of the next.
abbrev pub are_full : ℕ → List (List Entry) → Bool
are_full width [] = true
are_full width (row ∷ []) = true
are_full width (row ∷ next ∷ rows) = not (row_fits width (row ++ take 1 next)) && are_full width (next ∷ rows)

-- Rows as long as the width allows.
abbrev pub is_at_width : ℕ → List (List Entry) → Bool
is_at_width width rows = list_all (row_fits width) rows && are_full width rows

-- The rows are the entries cut at the width: joined they are the entries, and each has an entry.
pub record IsCut (width : ℕ) (xs : List Entry) (rows : List (List Entry)) : Type 0 where
  pub joined : flat_map (λ row. row) rows ≡ xs
  pub each : AllByRecursion (λ row. row ≢ []) rows
  pub at_width : IsTrue (is_at_width width rows)

-- Every way to cut entries into rows of at least one: the entries after the first are cut in every way, and
-- the first begins their first row or is a row of its own.
abbrev pub with_first : Entry → List (List Entry) → List (List (List Entry))
with_first x [] = ((x ∷ []) ∷ []) ∷ []
with_first x (row ∷ rows) = ((x ∷ row) ∷ rows) ∷ ((x ∷ []) ∷ row ∷ rows) ∷ []

abbrev pub cuts : List Entry → List (List (List Entry))
cuts [] = [] ∷ []
cuts (x ∷ xs) = flat_map (with_first x) (cuts xs)

-- The width of the printing area.
abbrev pub area : ℕ → List Command → ℕ
area width cs = area_dots width (placing cs)

-- The rows of the line: the one of all ways to cut its entries into rows that is at the width of the printing area. The law `one_cut`
-- says that there is exactly one.
abbrev pub rows : ℕ → List Command → List (List Entry)
rows width cs = last_or [] (filter (is_at_width (area width cs)) (cuts (entries width cs)))

-- The last of the rows, which isn't printed yet: its cells, and where the next one stands, if it doesn't follow the last.
abbrev pub placed : ℕ → List Command → Placed
placed width cs = placed_row (last_or [] (rows width cs))

abbrev pub line : ℕ → List Command → List Cell
line width cs = (placed width cs).cells

abbrev pub moved : ℕ → List Command → Option ℕ
moved width cs = (placed width cs).moved
