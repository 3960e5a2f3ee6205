-- Paths that go from row to row, step by step, and the squares that they cover.
use Rattle.std.specs.Prelude.{ℕ, ◌+◌, ◌==◌, List, [], ◌∷◌, ◌++◌, map, codes, decimal, flat_map, Option, None, Some, if◌then◌else◌}
use Rattle.escpos_picture.specs.Spans.{Span, span_text, line_start, columns_from, row_dots, black_columns}

-- A step: a path begins at the left edge of this row; a span is passed over or drawn; the pen goes back over so many dots and down to
-- the next row; the path ends.
pub data Step : Type 0 where
  begin : (row : ℕ) → Step
  along : (s : Span) → Step
  back : (dots : ℕ) → Step
  finish : Step

-- A step in the document.
abbrev pub step_text : Step → List ℕ
step_text (begin row) = line_start row
step_text (along s) = span_text s
step_text (back dots) = codes "m-" ++ decimal dots ++ codes " 1"
step_text finish = codes "\"/>\n"

abbrev pub steps_text : List Step → List ℕ
steps_text steps = flat_map step_text steps

-- ## What they cover

-- A square of the raster: its column and its row, counted from 0.
pub record Square : Type 0 where
  pub column : ℕ
  pub row : ℕ

abbrev pub square : ℕ → ℕ → Square
square column row = record { column = column; row = row }

-- The squares in these columns of a row.
abbrev pub squares_in : ℕ → List ℕ → List Square
squares_in row columns = map (λ column. square column row) columns

-- Where the pen is: on no path, or on one, at the left edge of this column in this row.
pub data Position : Type 0 where
  off_path : Position
  on_path : (column row : ℕ) → Position

-- These squares, and then the others, if there is an answer.
abbrev pub with_squares : List Square → Option (List Square) → Option (List Square)
with_squares squares None = None
with_squares squares (Some others) = Some (squares ++ others)

-- The squares that steps cover from this position on, in the order in which they are drawn. There is an answer only if the steps are
-- whole paths, each begun and ended, and if each way back ends at the left edge: it is exactly as long as the way there.
abbrev pub covered_by : Position → List Step → Option (List Square)
covered_by off_path [] = Some []
covered_by off_path (begin row ∷ steps) = covered_by (on_path 0 row) steps
covered_by off_path (along s ∷ steps) = None
covered_by off_path (back dots ∷ steps) = None
covered_by off_path (finish ∷ steps) = None
covered_by (on_path column row) [] = None
covered_by (on_path column row) (begin n ∷ steps) = None
covered_by (on_path column row) (along s ∷ steps) =
    with_squares (if s.is_black then squares_in row (columns_from column s.dots) else []) (covered_by (on_path (column + s.dots) row) steps)
covered_by (on_path column row) (back dots ∷ steps) = if dots == column then covered_by (on_path 0 (row + 1)) steps else None
covered_by (on_path column row) (finish ∷ steps) = covered_by off_path steps

-- The squares of the black dots of rows of bytes, the first of which is row n: from the top, each row from the left.
abbrev pub black_squares : ℕ → List (List ℕ) → List Square
black_squares n [] = []
black_squares n (row ∷ rows) = squares_in n (black_columns 0 (row_dots row)) ++ black_squares (n + 1) rows
