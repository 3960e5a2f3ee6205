-- The lines of each layout.
use Rattle.std.specs.List.{AllByRecursion, list_all}
use Rattle.std.specs.Prelude.{ℕ, ◌+◌, ◌-◌, ◌≤◌, ◌&&◌, nat_le, Bool, true, List, [], ◌∷◌, ◌++◌, length, take, replicate, map, flat_map, sum_by, if◌then◌else◌}
use Rattle.escpos_layout.specs.declared.row.Field.{Field}
use Rattle.escpos_layout.specs.declared.row.Side.{Side}
use Rattle.escpos_layout.specs.declared.row.Side.TheVariants.{Left, Right}
use Rattle.escpos_layout.specs.Wrapping.{wrap}

abbrev pub blanks : ℕ → List ℕ
blanks n = replicate n 0x20

-- A line with text at its beginning and at its end. There are no blanks if nothing stands at its end.
abbrev pub between : ℕ → List ℕ → List ℕ → List ℕ
between columns left [] = left
between columns left (c ∷ cs) = left ++ blanks (columns - (length left + length (c ∷ cs))) ++ c ∷ cs

-- A text alone on a line.
abbrev pub alone : Side → ℕ → List ℕ → List ℕ
alone Left columns text = between columns text []
alone Right columns text = between columns [] text

-- Whether two texts stand on one line: with a blank between them, or where one is empty.
abbrev pub fit_together : ℕ → List ℕ → List ℕ → Bool
fit_together columns [] right = true
fit_together columns left [] = true
fit_together columns (c ∷ cs) (d ∷ ds) = nat_le (length (c ∷ cs) + 1 + length (d ∷ ds)) columns

abbrev pub together : ℕ → List ℕ → List ℕ → List (List ℕ)
together columns left right = if fit_together columns left right then between columns left right ∷ [] else left ∷ between columns [] right ∷ []

-- Lines on the left, and then lines on the right. The last on the left and the first on the right stand on one line if they fit.
abbrev pub joined_lines : ℕ → List (List ℕ) → List (List ℕ) → List (List ℕ)
joined_lines columns [] rights = map (alone Right columns) rights
joined_lines columns (left ∷ []) [] = left ∷ []
joined_lines columns (left ∷ []) (right ∷ rights) = together columns left right ++ map (alone Right columns) rights
joined_lines columns (left ∷ next ∷ lefts) rights = left ∷ joined_lines columns (next ∷ lefts) rights

-- Text on the left, and text on the right.
unfoldable pub pair : ℕ → List ℕ → List ℕ → List (List ℕ)
pair columns left right = joined_lines columns (wrap columns left) (wrap columns right)

-- A text with so many blanks after it or before it.
abbrev pub with_blanks : Side → ℕ → List ℕ → List ℕ
with_blanks Left n text = text ++ blanks n
with_blanks Right n text = blanks n ++ text

-- What stands in a field: the first characters of its text, and as many blanks as it has left.
abbrev pub field_text : Field → List ℕ
field_text field = with_blanks field.side (field.width - length (take field.width field.text)) (take field.width field.text)

-- Fields side by side.
abbrev pub row : List Field → List ℕ
row fields = flat_map field_text fields

-- How many characters they have together.
abbrev pub row_width : List Field → ℕ
row_width fields = sum_by (λ (field : Field). field.width) fields

-- A line full of a character.
abbrev pub rule : ℕ → ℕ → List ℕ
rule columns c = replicate columns c

-- Fields that fit on a line: none has a width of 0, and together they have at most as many characters as the line.
abbrev pub FitsLine : ℕ → List Field → Type 0
FitsLine columns fields = AllByRecursion (λ (field : Field). 1 ≤ field.width) fields × (row_width fields ≤ columns)

-- Whether they do.
abbrev pub fields_fit : ℕ → List Field → Bool
fields_fit columns fields = list_all (λ (field : Field). nat_le 1 field.width) fields && nat_le (row_width fields) columns
