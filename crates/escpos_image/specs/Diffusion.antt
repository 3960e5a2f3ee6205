-- Floyd and Steinberg's error diffusion, row by row from the top, and from left to right.
--
-- The error of a dot is how much lighter it should be than it is. It goes to four neighbours that come later: 7/16 to the right one,
-- 3/16 to the one below left, 5/16 to the one below, and 1/16 to the one below right. So a dot gets such shares of the errors of the
-- left one, and of those above right, above and above left. Every error is kept with NO_ERROR added to it, so that none is negative;
-- where there is no neighbour, there is no error.
use Rattle.std.specs.Prelude.{ℕ, zero, suc, ◌+◌, ◌-◌, ◌*◌, ◌/◌, nat_lt, Bool, List, [], ◌∷◌, ◌++◌, map, take, drop, slice_index_or, if◌then◌else◌}
use Rattle.escpos_image.specs.declared.samples.TheConstants.{WHITE}
use Rattle.escpos_image.specs.declared.diffusion.TheConstants.{NO_ERROR, HALF}

-- What a dot should show, with NO_ERROR added: its gray value and its shares of errors, all sixteenths together, rounded down.
abbrev pub wanted : ℕ → ℕ → ℕ → ℕ → ℕ → ℕ
wanted gray left above_left above above_right =
    gray + (7 * left + above_left + 5 * above + 3 * above_right) / 16

-- A dot is black if it should show less than half of white.
abbrev pub is_black : ℕ → Bool
is_black want = nat_lt want (HALF + NO_ERROR)

-- The error of the dot, with NO_ERROR added: all that it should show, less what it does.
abbrev pub error : ℕ → ℕ
error want = if is_black want then want else want - WHITE

-- A want and those that follow from the error of its dot.
abbrev pub then_error : ℕ → (ℕ → List ℕ) → List ℕ
then_error want more = want ∷ more (error want)

-- What the dots of a row should show, from one on: the error of the dot to its left and of the dot above that, the errors of the dots
-- above, from its own column on, and their gray values.
unfoldable pub row_wants : ℕ → ℕ → List ℕ → List ℕ → List ℕ
row_wants left above_left above [] = []
row_wants left above_left above (gray ∷ grays) =
    then_error (wanted gray left above_left (slice_index_or above 0 NO_ERROR) (slice_index_or above 1 NO_ERROR))
    (λ here. row_wants here (slice_index_or above 0 NO_ERROR) (drop 1 above) grays)

-- What the dots of a whole row should show, with these errors above it.
abbrev pub whole_row : List ℕ → List ℕ → List ℕ
whole_row above grays = row_wants NO_ERROR NO_ERROR above grays

-- The dots of so many rows of this width, with these errors above them.
unfoldable pub diffused_rows : ℕ → List ℕ → ℕ → List ℕ → List Bool
diffused_rows width above zero grays = []
diffused_rows width above (suc rows) grays =
    map is_black (whole_row above (take width grays))
    ++ diffused_rows width (map error (whole_row above (take width grays))) rows (drop width grays)
