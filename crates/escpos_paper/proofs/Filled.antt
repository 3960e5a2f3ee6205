-- A plain program that cuts entries into rows: it fills a row until an entry doesn't fit. `OneCut` proves that what it finds is
-- the cut, and `AllCuts` that the definitions agree with it.
use Rattle.std.specs.Prelude.{ℕ, List, [], ◌∷◌, ◌++◌, if◌then◌else◌}
use Rattle.escpos_paper.specs.Cells.{Entry}
use Rattle.escpos_paper.specs.Rows.{row_fits}

abbrev pub filled_from : ℕ → List Entry → List Entry → List (List Entry)
filled_from width row [] = row ∷ []
filled_from width row (x ∷ xs) = if row_fits width (row ++ x ∷ []) then filled_from width (row ++ x ∷ []) xs else row ∷ filled_from width (x ∷ []) xs

abbrev pub filled : ℕ → List Entry → List (List Entry)
filled width [] = []
filled width (x ∷ xs) = filled_from width (x ∷ []) xs
