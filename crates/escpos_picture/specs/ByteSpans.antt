-- Rows byte by byte, and tables of texts. Only private clauses and proofs use these definitions.
use Rattle.std.specs.Prelude.{ℕ, zero, suc, ◌+◌, ◌*◌, ◌==◌, List, [], ◌++◌, take, replicate, length, flat_map, false, ◌∷◌, if◌then◌else◌}
use Rattle.escpos_picture.specs.Spans.{white_span, spans_text, byte_spans_text}
use Rattle.escpos_picture.specs.Steps.{back, step_text, steps_text}
use Rattle.escpos_picture.specs.Rasters.{row_steps}

-- The way over so many white bytes, and back over so many bytes.
abbrev pub white_text : ℕ → List ℕ
white_text count = spans_text (white_span (8 * count))

abbrev pub back_text : ℕ → List ℕ
back_text count = step_text (back (8 * count))

-- What a byte adds to the text of a row after so many white bytes, and how many white bytes come right before the next one.
abbrev pub byte_step : ℕ → ℕ → List ℕ
byte_step white b = if b == 0 then [] else white_text white ++ byte_spans_text b

abbrev pub white_after : ℕ → ℕ → ℕ
white_after white b = if b == 0 then white + 1 else 0

-- The text of rows of which none begins or ends a path.
abbrev pub inner_rows_text : List (List ℕ) → List ℕ
inner_rows_text rows = flat_map (λ row. steps_text (row_steps false row)) rows

-- ## Tables

-- A text takes the first of so many places.
abbrev pub padded : ℕ → List ℕ → List ℕ
padded width text = take width (text ++ replicate width 0x20)

-- The texts of so many numbers from this one on, and their lengths.
unfoldable pub texts_from : ℕ → (ℕ → List ℕ) → ℕ → ℕ → List ℕ
texts_from width text first zero = []
texts_from width text first (suc n) = padded width (text first) ++ texts_from width text (first + 1) n

unfoldable pub lengths_from : (ℕ → List ℕ) → ℕ → ℕ → List ℕ
lengths_from text first zero = []
lengths_from text first (suc n) = length (text first) ∷ lengths_from text (first + 1) n
