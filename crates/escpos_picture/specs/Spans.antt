-- Dots of a line as spans of one colour: the pen moves over a white one and draws a black one.
use Rattle.std.specs.Prelude.{ℕ, zero, suc, ◌+◌, ◌==◌, Bool, true, false, List, [], ◌∷◌, ◌++◌, codes, decimal, flat_map, if◌then◌else◌}
use Rattle.escpos_command.specs.Meanings.{has_bit}

pub record Span : Type 0 where
  pub is_black : Bool
  pub dots : ℕ

abbrev pub span : Bool → ℕ → Span
span is_black dots = record { is_black = is_black; dots = dots }

-- The spans with one more dot before them: the first span grows, if it has the colour of the dot.
abbrev pub with_dot : Bool → List Span → List Span
with_dot dot [] = span dot 1 ∷ []
with_dot true (s ∷ ss) = if s.is_black then span true (s.dots + 1) ∷ ss else span true 1 ∷ s ∷ ss
with_dot false (s ∷ ss) = if s.is_black then span false 1 ∷ s ∷ ss else span false (s.dots + 1) ∷ ss

-- The spans of these dots, of which `true` is black, each as long as can be.
abbrev pub spans : List Bool → List Span
spans [] = []
spans (dot ∷ dots) = with_dot dot (spans dots)

-- The eight dots of a byte: the highest bit is leftmost.
abbrev pub byte_dots : ℕ → List Bool
byte_dots b =
    has_bit b 7 ∷ has_bit b 6 ∷ has_bit b 5 ∷ has_bit b 4 ∷ has_bit b 3 ∷ has_bit b 2 ∷ has_bit b 1 ∷ has_bit b 0 ∷ []

abbrev pub row_dots : List ℕ → List Bool
row_dots bytes = flat_map byte_dots bytes

-- White dots, if there are any.
abbrev pub white_span : ℕ → List Span
white_span zero = []
white_span (suc n) = span false (suc n) ∷ []

-- The spans of a row after so many white dots: byte by byte, those of its dots. Bytes without a black dot are added to the white
-- dots before the next byte that has one; at the end of a row they have no span.
abbrev pub row_spans : ℕ → List ℕ → List Span
row_spans white [] = []
row_spans white (b ∷ bs) = if b == 0 then row_spans (white + 8) bs else white_span white ++ spans (byte_dots b) ++ row_spans 0 bs

-- The dots that spans pass over or draw.
abbrev pub passed : List Span → ℕ
passed [] = 0
passed (s ∷ ss) = s.dots + passed ss

-- ## What spans cover

-- This many columns from this one on.
abbrev pub columns_from : ℕ → ℕ → List ℕ
columns_from column zero = []
columns_from column (suc n) = column ∷ columns_from (column + 1) n

-- The columns that spans blacken, one after another, if the first span begins in this column.
abbrev pub covered : ℕ → List Span → List ℕ
covered column [] = []
covered column (s ∷ ss) = (if s.is_black then columns_from column s.dots else []) ++ covered (column + s.dots) ss

-- The columns of the black dots, if the first dot is in this column.
abbrev pub black_columns : ℕ → List Bool → List ℕ
black_columns column [] = []
black_columns column (true ∷ dots) = column ∷ black_columns (column + 1) dots
black_columns column (false ∷ dots) = black_columns (column + 1) dots

-- ## As text

-- A span in the data of a path: a move, or a line. A path is one dot thick, so that a line covers exactly the squares of its dots.
abbrev pub span_text : Span → List ℕ
span_text s = if s.is_black then codes "h" ++ decimal s.dots else codes "m" ++ decimal s.dots ++ codes " 0"

abbrev pub spans_text : List Span → List ℕ
spans_text ss = flat_map span_text ss

abbrev pub byte_spans_text : ℕ → List ℕ
byte_spans_text b = spans_text (spans (byte_dots b))

-- A path of these spans along the middle of line n, counted from 0, and none where there are no spans.
abbrev pub line_start : ℕ → List ℕ
line_start n = codes "<path d=\"M0 " ++ decimal n ++ codes ".5"

abbrev pub line_text : ℕ → List Span → List ℕ
line_text n [] = []
line_text n (s ∷ ss) = line_start n ++ spans_text (s ∷ ss) ++ codes "\"/>\n"
