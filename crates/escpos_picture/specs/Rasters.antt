-- A raster in the document: a path for each band of `BAND_ROWS` rows, which goes back to the left edge after each row but the last.
use Rattle.std.specs.Prelude.{ℕ, zero, suc, ◌+◌, ◌%◌, ◌==◌, Bool, true, List, [], ◌∷◌, ◌++◌, map, take, drop, if◌then◌else◌}
use Rattle.escpos_picture.specs.declared.raster.TheConstants.{BAND_ROWS}
use Rattle.escpos_picture.specs.Spans.{row_spans, passed}
use Rattle.escpos_picture.specs.Steps.{Step, begin, along, back, finish, steps_text}

-- The dots cut into y rows of x bytes.
abbrev pub rows_of : ℕ → ℕ → List ℕ → List (List ℕ)
rows_of x zero dots = []
rows_of x (suc y) dots = take x dots ∷ rows_of x y (drop x dots)

-- Whether row n is the first of a band.
abbrev pub begins_band : ℕ → Bool
begins_band n = n % BAND_ROWS == 0

-- Before row n: the beginning of a path, if a band begins there.
abbrev pub band_start : ℕ → List Step
band_start n = if begins_band n then begin n ∷ [] else []

-- Whether a path ends before row n, if these are the rows from there on: where a band begins, and where no row is left.
abbrev pub ends_before : ℕ → List (List ℕ) → Bool
ends_before n [] = true
ends_before n (row ∷ rows) = begins_band n

-- After a row: the end of the path, if the row is its last, and otherwise the way back over so many dots.
abbrev pub row_end : Bool → ℕ → Step
row_end is_last dots = if is_last then finish else back dots

-- The steps along a row, which is the last of its path or isn't: its spans, and then the end, or the way back over all dots that the
-- spans passed. White bytes at the end of a row have no span.
abbrev pub row_steps : Bool → List ℕ → List Step
row_steps is_last bytes = map (λ s. along s) (row_spans 0 bytes) ++ row_end is_last (passed (row_spans 0 bytes)) ∷ []

-- The steps along rows from row n on.
unfoldable pub raster_steps : ℕ → List (List ℕ) → List Step
raster_steps n [] = []
raster_steps n (row ∷ rows) = band_start n ++ row_steps (ends_before (n + 1) rows) row ++ raster_steps (n + 1) rows

-- Rows from row n on, in the document.
unfoldable pub rows_text : ℕ → List (List ℕ) → List ℕ
rows_text n rows = steps_text (raster_steps n rows)
