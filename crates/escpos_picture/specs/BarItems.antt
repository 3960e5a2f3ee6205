-- A barcode in the document: its bars between its lines of text, or a box where it isn't scannable.
use Rattle.std.specs.Prelude.{ℕ, ◌+◌, ◌*◌, min, Bool, true, false, not, List, [], ◌∷◌, ◌++◌, length, replicate, sum, Option, None, Some, codes, decimal, if◌then◌else◌}
use Rattle.escpos_command.specs.declared.bars.Symbology.{Symbology}
use Rattle.escpos_paper.specs.declared.style.Placing.{Placing}
use Rattle.escpos_command.specs.declared.parameter.choices.FontFace.{FontFace}
use Rattle.escpos_command.specs.declared.parameter.choices.FontFace.TheVariants.{A, B}
use Rattle.escpos_command.specs.declared.parameter.choices.HriPosition.{HriPosition}
use Rattle.escpos_command.specs.declared.parameter.choices.HriPosition.TheVariants as place
use Rattle.escpos_paper.specs.declared.style.BarStyle.{BarStyle}
use Rattle.escpos_paper.specs.Dots.{face_dots}
use Rattle.escpos_barcode.specs.Drawn.{drawn, with_added}
use Rattle.escpos_barcode.specs.Shown.{shown}
use Rattle.escpos_picture.specs.Numbers.{quarters}
use Rattle.escpos_picture.specs.Places.{face_height, indent, moved, whole_line}
use Rattle.escpos_picture.specs.Rows.{characters_text}
use Rattle.escpos_picture.specs.Spans.{Span, span, line_text}

-- ## Text

abbrev pub stands_above : HriPosition → Bool
stands_above place.Nowhere = false
stands_above place.Above = true
stands_above place.Below = false
stands_above place.Both = true

abbrev pub stands_below : HriPosition → Bool
stands_below place.Nowhere = false
stands_below place.Above = false
stands_below place.Below = true
stands_below place.Both = true

abbrev pub label_class : FontFace → List ℕ
label_class A = codes "middle"
label_class B = codes "middle B"

-- A line of text in the middle of this width, its base line this many quarters of a dot under the top of the barcode.
unfoldable pub label_place : ℕ → ℕ → List ℕ
label_place width base = codes "\" x=\"" ++ quarters (2 * width) ++ codes "\" y=\"" ++ quarters base

unfoldable pub label_tag : FontFace → ℕ → ℕ → ℕ → List ℕ
label_tag face width base count =
    codes "<text class=\"" ++ label_class face ++ label_place width base ++ codes "\" textLength=\"" ++ decimal (face_dots face * count) ++ codes "\">"

unfoldable pub label : FontFace → ℕ → ℕ → List ℕ → List ℕ
label face width base text = label_tag face width base (length text) ++ characters_text 0 0 text ++ codes "</text>"

-- The line above the bars takes the height of its font, and so does the one below.
abbrev pub bars_top : BarStyle → ℕ
bars_top style = if stands_above style.place then face_height style.hri_font else 0

unfoldable pub label_above : BarStyle → ℕ → List ℕ → List ℕ
label_above style width text = if stands_above style.place then label style.hri_font width (3 * face_height style.hri_font) text else []

unfoldable pub label_below : BarStyle → ℕ → List ℕ → List ℕ
label_below style width text =
    if stands_below style.place then label style.hri_font width (4 * (bars_top style + style.height) + 3 * face_height style.hri_font) text else []

-- ## Bars

-- The dots across bars and spaces in turn: those of a bar are black.
abbrev pub bar_dots : Bool → List ℕ → List Bool
bar_dots is_bar [] = []
bar_dots is_bar (w ∷ ws) = replicate w is_bar ++ bar_dots (not is_bar) ws

-- The same as spans.
abbrev pub bar_spans : Bool → List ℕ → List Span
bar_spans is_bar [] = []
bar_spans is_bar (w ∷ ws) = span is_bar w ∷ bar_spans (not is_bar) ws

-- One line of these dots, stretched to the height of the bars.
unfoldable pub bars_frame : BarStyle → ℕ → List ℕ
bars_frame style width =
    codes "<svg y=\"" ++ decimal (bars_top style) ++ codes "\" width=\"" ++ decimal width ++ codes "\" height=\"" ++ decimal style.height
    ++ codes "\" viewBox=\"0 0 " ++ decimal width ++ codes " 1\" preserveAspectRatio=\"none\">\n"

unfoldable pub bars_group : ℕ → ℕ → Placing → ℕ → List ℕ
bars_group line_dots down align width = codes "<g class=\"bars\" transform=\"translate(" ++ moved (indent line_dots align width) down ++ codes ")\">\n"

abbrev pub bars_start : ℕ → ℕ → Placing → BarStyle → ℕ → List ℕ → List ℕ
bars_start line_dots down align style width text = bars_group line_dots down align width ++ label_above style width text ++ bars_frame style width

abbrev pub bars_end : BarStyle → ℕ → List ℕ → List ℕ
bars_end style width text = codes "</svg>\n" ++ label_below style width text ++ codes "</g>\n"

abbrev pub scannable : ℕ → ℕ → Placing → BarStyle → List ℕ → List ℕ → List ℕ
scannable line_dots down align style text widths =
    bars_start line_dots down align style (sum widths) text ++ line_text 0 (bar_spans true widths) ++ bars_end style (sum widths) text

-- ## What no scanner reads

-- An empty box as wide as the line, with the content and the words "not scannable", both as large as the box's height allows.
unfoldable pub box_frame : ℕ → ℕ → ℕ → List ℕ
box_frame line_dots top height =
    codes "<svg y=\"" ++ decimal top ++ codes "\" width=\"" ++ decimal line_dots ++ codes "\" height=\"" ++ decimal height
    ++ codes "\"><rect class=\"box\" width=\"" ++ decimal line_dots ++ codes "\" height=\"" ++ decimal height ++ codes "\"/></svg>\n"

unfoldable pub box_text : ℕ → ℕ → ℕ → ℕ → List ℕ
box_text line_dots top height count =
    codes "<svg y=\"" ++ decimal top ++ codes "\" width=\"" ++ decimal line_dots ++ codes "\" height=\"" ++ decimal height
    ++ codes "\" viewBox=\"0 0 512 48\"><text class=\"middle\" x=\"256\" y=\"18\">not scannable</text><text class=\"middle\" x=\"256\" y=\"42\" textLength=\""
    ++ decimal (min (12 * count) 496) ++ codes "\" lengthAdjust=\"spacingAndGlyphs\">"

abbrev pub box : ℕ → ℕ → BarStyle → List ℕ → List ℕ
box line_dots down style content =
    bars_group line_dots down whole_line line_dots ++ box_frame line_dots (bars_top style) style.height ++ box_text line_dots (bars_top style) style.height (length content)
    ++ characters_text 0 0 content ++ codes "</text></svg>\n</g>\n"

-- ## Both

abbrev pub bars_or_box : ℕ → ℕ → Placing → BarStyle → List ℕ → List ℕ → Option (List ℕ) → List ℕ
bars_or_box line_dots down align style text content (Some widths) = scannable line_dots down align style text widths
bars_or_box line_dots down align style text content None = box line_dots down style content

abbrev pub bars_drawing : ℕ → ℕ → Placing → Symbology → BarStyle → List ℕ → Option ℕ → List ℕ
bars_drawing line_dots down align symbology style content added =
    bars_or_box line_dots down align style (shown symbology (with_added content added)) (with_added content added)
    (drawn line_dots symbology style.module_width (with_added content added))
