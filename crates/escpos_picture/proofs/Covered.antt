-- What paths draw is exactly the black dots.
use Rattle.std.proofs.Common.{◌≡◌, ℕ, zero, suc, ◌+◌, List, [], ◌∷◌, ◌++◌, refl, sym, ◌∙◌, ap, append_assoc, arith, Bool, true, false, cond, length}
use Rattle.std.specs.Prelude.{◌==◌, replicate, map, Option, None, Some}
use Rattle.std.proofs.lemmas.List.{map-append}
use Rattle.std.proofs.lemmas.Bool.Decides.{nat_tests}
use Rattle.escpos_picture.specs.Spans.{Span, span, with_dot, spans, byte_dots, row_dots, white_span, row_spans, passed, covered, columns_from, black_columns}
use Rattle.escpos_picture.specs.Steps.{Step, begin, along, Square, square, squares_in, Position, off_path, on_path, with_squares, covered_by, black_squares}
use Rattle.escpos_picture.specs.Rasters.{begins_band, ends_before, row_end, row_steps, raster_steps}
use Rattle.escpos_picture.specs.BarItems.{bar_dots, bar_spans}
use Rattle.escpos_picture.proofs.RowSteps.{all_counted}

covered-append : (column : ℕ) (xs ys : List Span) → covered column (xs ++ ys) ≡ covered column xs ++ covered (column + passed xs) ys
covered-append column [] ys =
    let same : column ≡ column + 0 = omega arith in
    ap (λ n. covered n ys) same
covered-append column (s ∷ ss) ys =
    let first = cond s.is_black (columns_from column s.dots) [] in
    let further : column + s.dots + passed ss ≡ column + (s.dots + passed ss) = omega arith in
    ap (λ t. first ++ t) (covered-append (column + s.dots) ss ys)
    ∙ ap (λ n. first ++ (covered (column + s.dots) ss ++ covered n ys)) further
    ∙ sym (append_assoc first (covered (column + s.dots) ss) (covered (column + (s.dots + passed ss)) ys))

-- A black dot before spans blackens one column more.
black_first : (column : ℕ) (is_black : Bool) (dots : ℕ) (ss : List Span)
    → covered column (cond is_black (span true (dots + 1) ∷ ss) (span true 1 ∷ span is_black dots ∷ ss)) ≡ column ∷ covered (column + 1) (span is_black dots ∷ ss)
black_first column true dots ss =
    let more : dots + 1 ≡ suc dots = omega arith in
    let end : column + suc dots ≡ column + 1 + dots = omega arith in
    ap (λ n. columns_from column n ++ covered (column + n) ss) more
    ∙ ap (λ n. columns_from column (suc dots) ++ covered n ss) end
black_first column false dots ss = refl

black_covers : (column : ℕ) (ss : List Span) → covered column (with_dot true ss) ≡ column ∷ covered (column + 1) ss
black_covers column [] = refl
black_covers column (s ∷ ss) = black_first column s.is_black s.dots ss

-- A white one moves all that they blacken by a column.
white_first : (column : ℕ) (is_black : Bool) (dots : ℕ) (ss : List Span)
    → covered column (cond is_black (span false 1 ∷ span is_black dots ∷ ss) (span false (dots + 1) ∷ ss)) ≡ covered (column + 1) (span is_black dots ∷ ss)
white_first column true dots ss = refl
white_first column false dots ss =
    let end : column + (dots + 1) ≡ column + 1 + dots = omega arith in
    ap (λ n. covered n ss) end

white_covers : (column : ℕ) (ss : List Span) → covered column (with_dot false ss) ≡ covered (column + 1) ss
white_covers column [] = refl
white_covers column (s ∷ ss) = white_first column s.is_black s.dots ss

covers : (column : ℕ) (dots : List Bool) → covered column (spans dots) ≡ black_columns column dots
covers column [] = refl
covers column (true ∷ dots) = black_covers column (spans dots) ∙ ap (λ cs. column ∷ cs) (covers (column + 1) dots)
covers column (false ∷ dots) = white_covers column (spans dots) ∙ covers (column + 1) dots

black_columns-append : (column : ℕ) (xs ys : List Bool) → black_columns column (xs ++ ys) ≡ black_columns column xs ++ black_columns (column + length xs) ys
black_columns-append column [] ys =
    let same : column ≡ column + 0 = omega arith in
    ap (λ n. black_columns n ys) same
black_columns-append column (true ∷ xs) ys =
    let further : column + 1 + length xs ≡ column + suc (length xs) = omega arith in
    ap (λ cs. column ∷ cs) (black_columns-append (column + 1) xs ys) ∙ ap (λ n. column ∷ (black_columns (column + 1) xs ++ black_columns n ys)) further
black_columns-append column (false ∷ xs) ys =
    let further : column + 1 + length xs ≡ column + suc (length xs) = omega arith in
    black_columns-append (column + 1) xs ys ∙ ap (λ n. black_columns (column + 1) xs ++ black_columns n ys) further

-- White dots, and then spans.
whites_cover : (column white : ℕ) (ss : List Span) → covered column (white_span white ++ ss) ≡ covered (column + white) ss
whites_cover column zero ss =
    let same : column ≡ column + 0 = omega arith in
    ap (λ n. covered n ss) same
whites_cover column (suc n) ss = refl

pub row_covers : (column white : ℕ) (bytes : List ℕ) → covered column (row_spans white bytes) ≡ black_columns (column + white) (row_dots bytes)
row_covers column white [] = refl
row_covers column white (zero ∷ bs) =
    let further : column + (white + 8) ≡ column + white + 1 + 1 + 1 + 1 + 1 + 1 + 1 + 1 = omega arith in
    row_covers column (white + 8) bs ∙ ap (λ n. black_columns n (row_dots bs)) further
row_covers column white (suc b ∷ bs) =
    let some : (suc b == 0) ≡ false = grind (arith, nat_tests) in
    let own = spans (byte_dots (suc b)) in
    let rest = row_spans 0 bs in
    let none_before : column + white + 8 + 0 ≡ column + white + 8 = omega arith in
    ap (λ v. covered column (cond v (row_spans (white + 8) bs) (white_span white ++ own ++ rest))) some
    ∙ ap (λ ss. covered column ss) (append_assoc (white_span white) own rest)
    ∙ whites_cover column white (own ++ rest)
    ∙ covered-append (column + white) own rest
    ∙ ap (λ t. t ++ covered (column + white + passed own) rest) (covers (column + white) (byte_dots (suc b)))
    ∙ ap (λ n. black_columns (column + white) (byte_dots (suc b)) ++ covered (column + white + n) rest) (all_counted (byte_dots (suc b)))
    ∙ ap (λ t. black_columns (column + white) (byte_dots (suc b)) ++ t) (row_covers (column + white + 8) 0 bs)
    ∙ ap (λ n. black_columns (column + white) (byte_dots (suc b)) ++ black_columns n (row_dots bs)) none_before
    ∙ sym (black_columns-append (column + white) (byte_dots (suc b)) (row_dots bs))

-- ## The squares of a raster

none_more : (others : Option (List Square)) → with_squares [] others ≡ others
none_more None = refl
none_more (Some others) = refl

both_more : (xs ys : List Square) (others : Option (List Square)) → with_squares xs (with_squares ys others) ≡ with_squares (xs ++ ys) others
both_more xs ys None = refl
both_more xs ys (Some others) = ap (λ t. Some t) (sym (append_assoc xs ys others))

of_colour : (row : ℕ) (is_black : Bool) (columns : List ℕ) → cond is_black (squares_in row columns) [] ≡ squares_in row (cond is_black columns [])
of_colour row true columns = refl
of_colour row false columns = refl

-- Along spans
along_covers : (column row : ℕ) (ss : List Span) (steps : List Step)
    → covered_by (on_path column row) (map (λ s. along s) ss ++ steps) ≡ with_squares (squares_in row (covered column ss)) (covered_by (on_path (column + passed ss) row) steps)
along_covers column row [] steps =
    let same : column ≡ column + 0 = omega arith in
    ap (λ n. covered_by (on_path n row) steps) same ∙ sym (none_more (covered_by (on_path (column + 0) row) steps))
along_covers column row (s ∷ ss) steps =
    let own = cond s.is_black (columns_from column s.dots) [] in
    let others = covered (column + s.dots) ss in
    let rest : ℕ → Option (List Square) = λ n. covered_by (on_path n row) steps in
    let further : column + s.dots + passed ss ≡ column + (s.dots + passed ss) = omega arith in
    ap (λ t. with_squares t (covered_by (on_path (column + s.dots) row) (map (λ z. along z) ss ++ steps))) (of_colour row s.is_black (columns_from column s.dots))
    ∙ ap (λ t. with_squares (squares_in row own) t) (along_covers (column + s.dots) row ss steps)
    ∙ both_more (squares_in row own) (squares_in row others) (rest (column + s.dots + passed ss))
    ∙ ap (λ t. with_squares t (rest (column + s.dots + passed ss))) (sym (map-append (λ (n : ℕ). square n row) own others))
    ∙ ap (λ n. with_squares (squares_in row (own ++ others)) (rest n)) further

-- A row with its end
position_after : Bool → ℕ → Position
position_after is_last n = cond is_last off_path (on_path 0 n)

end_covers : (is_last : Bool) (dots row : ℕ) (steps : List Step)
    → covered_by (on_path (0 + dots) row) (row_end is_last dots ∷ steps) ≡ covered_by (position_after is_last (row + 1)) steps
unfolding position_after
end_covers true dots row steps = refl
end_covers false dots row steps =
    let same : (dots == 0 + dots) ≡ true = grind (arith, nat_tests) in
    ap (λ v. cond v (covered_by (on_path 0 (row + 1)) steps) None) same

row_in_raster : (n : ℕ) (is_last : Bool) (row : List ℕ) (steps : List Step)
    → covered_by (on_path 0 n) (row_steps is_last row ++ steps)
    ≡ with_squares (squares_in n (black_columns 0 (row_dots row))) (covered_by (position_after is_last (n + 1)) steps)
row_in_raster n is_last row steps =
    let ss = row_spans 0 row in
    ap (λ t. covered_by (on_path 0 n) t) (append_assoc (map (λ s. along s) ss) (row_end is_last (passed ss) ∷ []) steps)
    ∙ along_covers 0 n ss (row_end is_last (passed ss) ∷ steps)
    ∙ ap (λ t. with_squares (squares_in n (covered 0 ss)) t) (end_covers is_last (passed ss) n steps)
    ∙ ap (λ t. with_squares (squares_in n t) (covered_by (position_after is_last (n + 1)) steps)) (row_covers 0 0 row)

-- Where a band begins no path is begun.
start_covers : (v : Bool) (n : ℕ) (own others : List Step)
    → covered_by (position_after v n) (cond v (begin n ∷ []) [] ++ own ++ others) ≡ covered_by (on_path 0 n) (own ++ others)
unfolding position_after
start_covers true n own others = refl
start_covers false n own others = refl

rows_covered : (n : ℕ) (rows : List (List ℕ)) → covered_by (position_after (ends_before n rows) n) (raster_steps n rows) ≡ Some (black_squares n rows)
unfolding position_after raster_steps
rows_covered n [] = refl
rows_covered n (row ∷ rows) =
    let is_last = ends_before (n + 1) rows in
    let below = raster_steps (n + 1) rows in
    start_covers (begins_band n) n (row_steps is_last row) below
    ∙ row_in_raster n is_last row below
    ∙ ap (λ t. with_squares (squares_in n (black_columns 0 (row_dots row))) t) (rows_covered (n + 1) rows)

pub raster_covers : (rows : List (List ℕ)) → covered_by off_path (raster_steps 0 rows) ≡ Some (black_squares 0 rows)
unfolding position_after
raster_covers [] = rows_covered 0 []
raster_covers (row ∷ rows) = rows_covered 0 (row ∷ rows)

-- ## The dots of bars

-- The dots of a bar, and of a space.
bar_covers : (column width : ℕ) (dots : List Bool) → black_columns column (replicate width true ++ dots) ≡ columns_from column width ++ black_columns (column + width) dots
bar_covers column zero dots =
    let same : column ≡ column + 0 = omega arith in
    ap (λ n. black_columns n dots) same
bar_covers column (suc n) dots =
    let further : column + 1 + n ≡ column + suc n = omega arith in
    ap (λ cs. column ∷ cs) (bar_covers (column + 1) n dots) ∙ ap (λ m. column ∷ (columns_from (column + 1) n ++ black_columns m dots)) further

space_covers : (column width : ℕ) (dots : List Bool) → black_columns column (replicate width false ++ dots) ≡ black_columns (column + width) dots
space_covers column zero dots =
    let same : column ≡ column + 0 = omega arith in
    ap (λ n. black_columns n dots) same
space_covers column (suc n) dots =
    let further : column + 1 + n ≡ column + suc n = omega arith in
    space_covers (column + 1) n dots ∙ ap (λ m. black_columns m dots) further

pub bars_cover : (column : ℕ) (is_bar : Bool) (widths : List ℕ) → covered column (bar_spans is_bar widths) ≡ black_columns column (bar_dots is_bar widths)
bars_cover column is_bar [] = refl
bars_cover column true (w ∷ ws) =
    ap (λ t. columns_from column w ++ t) (bars_cover (column + w) false ws) ∙ sym (bar_covers column w (bar_dots false ws))
bars_cover column false (w ∷ ws) = bars_cover (column + w) true ws ∙ sym (space_covers column w (bar_dots true ws))
