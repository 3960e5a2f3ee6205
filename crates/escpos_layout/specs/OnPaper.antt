-- What lines are on paper.
use Rattle.std.specs.Prelude.{ℕ, ◌≡◌, ◌≢◌, ◌<◌, ◌+◌, List, [], ◌∷◌, ◌++◌, All, length, map, flat_map, Option, Some, None, Ok}
use Rattle.std.specs.List.{AllByRecursion}
use Rattle.escpos_command.specs.declared.command.Command.{Command}
use Rattle.escpos_paper.specs.declared.cell.Cell.{Cell}
use Rattle.escpos_paper.specs.declared.item.Item.{Item}
use Rattle.escpos_paper.specs.declared.item.Item.TheVariants.{Feed}
use Rattle.escpos_paper.specs.declared.style.LineStyle.{LineStyle}
use Rattle.escpos_paper.specs.declared.style.Style.{Style}
use Rattle.escpos_paper.specs.Cells.{dots}
use Rattle.escpos_paper.specs.Dots.{style_dots}
use Rattle.escpos_paper.specs.Printed.{printed, row_of}
use Rattle.escpos_paper.specs.Rows.{line, moved}
use Rattle.escpos_paper.specs.Styles.{style, line_style}
use Rattle.escpos_text.specs.declared.encoding.Encoding.{Encoding}
use Rattle.escpos_text.specs.Laws.{IsReadBack, read_back}
use Rattle.escpos_text.specs.Reading.{reads}
use Rattle.escpos_text.specs.Writing.{written, table_after}

-- The character that a printer prints for a cell, by the character set and the code table of its style.
abbrev pub read_cell : Cell → Option ℕ
read_cell x = reads x.style.character_set x.style.table x.byte

-- A cell has this style, but for the code table.
abbrev pub HasStyle : Style → Cell → Type 0
HasStyle s x = x.style ≡ record s { table = x.style.table }

-- A row of cells shows a line: there is one cell for each of its characters, in this style, and they read back as the line; as
-- exactly the line, if there is no replacement and no U+00A0 in it.
pub record Shows (e : Encoding) (s : Style) (text : List ℕ) (row : List Cell) : Type 0 where
  pub commands : List Command
  pub are_written : written e text ≡ Ok commands
  pub one_each : length row ≡ length text
  pub in_style : AllByRecursion (HasStyle s) row
  pub cells : map read_cell row ≡ read_back e.set e.table commands
  pub reads_back : IsReadBack e text commands
  pub exactly : e.replacement ≡ None → All (λ c. c ≢ 0xA0) text → map read_cell row ≡ map (λ c. Some c) text

-- Rows show lines, each with the code table in force that the one before left.
abbrev pub ShowLines : Encoding → Style → List (List ℕ) → List (List Cell) → Type 0
ShowLines e s [] [] = Unit {0}
ShowLines e s [] (row ∷ rows) = ⊥
ShowLines e s (text ∷ lines) [] = ⊥
ShowLines e s (text ∷ lines) (row ∷ rows) =
    (shows : Shows e s text row) × ShowLines (record e { table = table_after e.table shows.commands }) s lines rows

-- A row as it is printed and fed.
abbrev pub line_items : LineStyle → List Cell → List Item
line_items lines row = row_of lines row ++ Feed 1 lines.spacing ∷ []

-- What commands that come after others print: each line as one row and its feed. Then the line is empty, its next cell stands at its beginning, and what was set is as it
-- was, but for the code table.
pub record PrintsLines (width : ℕ) (before commands : List Command) (e : Encoding) (lines : List (List ℕ)) : Type 0 where
  pub rows : List (List Cell)
  pub prints : printed width (before ++ commands) ≡ printed width before ++ flat_map (line_items (line_style before)) rows
  pub show : ShowLines e (style before) lines rows
  pub empties : line width (before ++ commands) ≡ []
  pub follows : moved width (before ++ commands) ≡ None
  pub same_lines : line_style (before ++ commands) ≡ line_style before
  pub same_style : style (before ++ commands) ≡ record (style before) { table = table_after e.table commands }

-- The encoding is what these commands have set.
pub record IsInForce (before : List Command) (e : Encoding) : Type 0 where
  pub set : e.set ≡ (style before).character_set
  pub table : e.table ≡ (style before).table

-- A row of cells in a style ends less than one of its characters before the end of the line.
abbrev pub EndsAtLineEnd : ℕ → Style → List Cell → Type 0
EndsAtLineEnd width s row = width < dots row + style_dots s
