-- A row in the document: its cells, neighbours of one style that follow one another as one text.
use Rattle.std.specs.Prelude.{ℕ, suc, ◌+◌, ◌-◌, ◌*◌, ◌==◌, ◌&&◌, ◌||◌, not, Bool, true, false, List, [], ◌∷◌, ◌++◌, Option, length, codes, decimal, flat_map, map, if◌then◌else◌}
use Rattle.escpos_command.specs.declared.parameter.choices.FontFace.TheVariants.{A, B}
use Rattle.escpos_command.specs.declared.parameter.choices.FontFace.{FontFace}
use Rattle.escpos_paper.specs.declared.cell.Cell.{Cell}
use Rattle.escpos_paper.specs.declared.style.Style.{Style}
use Rattle.escpos_paper.specs.Styles.{same_style}
use Rattle.std.specs.Option.{unwrap_or}
use Rattle.escpos_command.specs.Text.{is_some}
use Rattle.escpos_paper.specs.Dots.{face_dots, style_dots}
use Rattle.escpos_picture.specs.Characters.{byte_text}
use Rattle.escpos_picture.specs.Numbers.{quarters}
use Rattle.escpos_picture.specs.Places.{face_height, style_height}

-- Neighbouring cells of one style that follow one another.
pub record Run : Type 0 where
  pub style : Style
  pub bytes : List ℕ

abbrev pub run : Style → List ℕ → Run
run style bytes = record { style = style; bytes = bytes }

-- A run, and where its first cell stands, if it doesn't follow the cell before it.
abbrev pub PlacedRun : Type 0
PlacedRun = Option ℕ × Run

-- A cell with this style and place joins one of the style before it. One that is turned is a run alone.
abbrev pub joins : Style → Style → Option ℕ → Bool
joins before s moved = same_style before s && not (is_some moved) && not s.turned

-- The runs with one more cell before them, which joins the first run where that follows in its style.
abbrev pub with_before : Cell → List PlacedRun → List PlacedRun
with_before x [] = (x.moved, run x.style (x.byte ∷ [])) ∷ []
with_before x (r ∷ rs) =
    if joins x.style r.1.style r.0 then (x.moved, run x.style (x.byte ∷ r.1.bytes)) ∷ rs else (x.moved, run x.style (x.byte ∷ [])) ∷ r ∷ rs

unfoldable pub runs : List Cell → List PlacedRun
runs [] = []
runs (x ∷ xs) = with_before x (runs xs)

abbrev pub bytes_of : List Cell → List ℕ
bytes_of cells = map (λ (x : Cell). x.byte) cells

-- How wide a run is.
abbrev pub run_dots : Run → ℕ
run_dots r = style_dots r.style * length r.bytes

-- A style that isn't scaled.
abbrev pub is_plain_size : Style → Bool
is_plain_size s = s.width == 1 && s.height == 1

-- Where a run's text begins, this many dots from the left end of the row, on the base line; the factors of its style scale it.
abbrev pub scaled_place : ℕ → Style → List ℕ
scaled_place x s =
    codes " transform=\"matrix(" ++ decimal s.width ++ codes " 0 0 " ++ decimal s.height ++ codes " " ++ decimal x ++ codes " 0)\""

-- A character that is turned by 90 degrees, clockwise: its upper end is at the right. Its base line stands a quarter of its width from the left,
-- and its left end three quarters of its height above the base line of the row.
abbrev pub turned_place : ℕ → Style → List ℕ
turned_place x s =
    codes " transform=\"matrix(0 " ++ decimal s.width ++ codes " -" ++ decimal s.height ++ codes " 0 " ++ quarters (4 * x + face_height s.font * s.height)
    ++ codes " -" ++ quarters (3 * style_height s) ++ codes ")\""

unfoldable pub text_place : ℕ → Style → List ℕ
text_place x s =
    if s.turned then turned_place x s
    else if is_plain_size s then codes " x=\"" ++ decimal x ++ codes "\""
    else scaled_place x s

-- The classes of a font, bold or not, white or not.
abbrev pub class_of : FontFace → Bool → Bool → List ℕ
class_of A false false = []
class_of A false true = codes " class=\"white\""
class_of A true false = codes " class=\"bold\""
class_of A true true = codes " class=\"bold white\""
class_of B false false = codes " class=\"B\""
class_of B false true = codes " class=\"B white\""
class_of B true false = codes " class=\"B bold\""
class_of B true true = codes " class=\"B bold white\""

-- Emphasis and double strike both print bold.
unfoldable pub text_class : Style → List ℕ
text_class s = class_of s.font (s.bold || s.strike) s.reverse

-- The characters of these bytes, printed with a character set and a code table.
abbrev pub characters_text : ℕ → ℕ → List ℕ → List ℕ
characters_text set table bytes = flat_map (byte_text set table) bytes

-- The tag before a run's characters. They are as wide as the run, whatever font the viewer has.
unfoldable pub text_start : ℕ → Style → List ℕ
text_start x s = codes "<text" ++ text_place x s ++ text_class s

-- How wide the characters of a run are before they are scaled: no space follows the last one.
abbrev pub text_dots : Run → ℕ
text_dots r = (face_dots r.style.font + r.style.spacing) * length r.bytes - r.style.spacing

unfoldable pub run_tag : ℕ → Run → List ℕ
run_tag x r = text_start x r.style ++ codes " textLength=\"" ++ decimal (text_dots r) ++ codes "\">"

abbrev pub run_text : ℕ → Run → List ℕ
run_text x r = run_tag x r ++ characters_text r.style.character_set r.style.table r.bytes ++ codes "</text>"

-- A line at the lower end of the run's cells, a quarter of their height below the base line; none under characters that are turned.
-- (Reference: ESC -.)
unfoldable pub underline_text : ℕ → Run → List ℕ
underline_text x r =
    if r.style.underline == 0 || r.style.turned then []
    else codes "<path d=\"M" ++ decimal x ++ codes " " ++ quarters (face_height r.style.font * r.style.height - 4 * r.style.underline)
    ++ codes "h" ++ decimal (run_dots r) ++ codes "v" ++ decimal r.style.underline ++ codes "h-" ++ decimal (run_dots r) ++ codes "z\"/>"

-- Black ground as wide and as high as the run's cells, which reach three quarters of their height above the base line.
unfoldable pub ground_text : ℕ → Run → List ℕ
ground_text x r =
    codes "<path d=\"M" ++ decimal x ++ codes " -" ++ quarters (3 * style_height r.style) ++ codes "h" ++ decimal (run_dots r)
    ++ codes "v" ++ decimal (style_height r.style) ++ codes "h-" ++ decimal (run_dots r) ++ codes "z\"/>"

-- White characters stand on black ground, and aren't underlined. (Reference: GS B.)
unfoldable pub run_marks : ℕ → Run → List ℕ
run_marks x r = if r.style.reverse then ground_text x r ++ run_text x r else run_text x r ++ underline_text x r

-- All that is black has the second colour where the run has that. (Reference: ESC r.)
unfoldable pub run_drawing : ℕ → Run → List ℕ
run_drawing x r = if r.style.color == 0 then run_marks x r else codes "<g class=\"second\">" ++ run_marks x r ++ codes "</g>"

-- Runs one after another, the first this many dots from the left end of the row, unless it has a place of its own.
unfoldable pub runs_drawing : ℕ → List PlacedRun → List ℕ
runs_drawing x [] = []
runs_drawing x (r ∷ rs) = run_drawing (unwrap_or r.0 x) r.1 ++ runs_drawing (unwrap_or r.0 x + run_dots r.1) rs

-- How many cells that follow one of this style come before the first that doesn't join the cell before it. Only private
-- clauses and proofs use it: the first run of cells has the first of them and so many more.
abbrev pub same_count : Style → List Cell → ℕ
same_count s [] = 0
same_count s (x ∷ xs) = if joins s x.style x.moved then suc (same_count x.style xs) else 0
