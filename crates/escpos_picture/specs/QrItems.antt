-- A QR code in the document: a box as large as the code, with its content in it; its modules aren't drawn.
use Rattle.std.specs.Prelude.{ℕ, ◌*◌, min, List, ◌++◌, length, Option, None, Some, codes, decimal}
use Rattle.escpos_paper.specs.declared.style.Placing.{Placing}
use Rattle.escpos_command.specs.declared.parameter.choices.Correction.{Correction}
use Rattle.escpos_picture.specs.declared.qr.TheConstants.{BOX_HEIGHT}
use Rattle.escpos_picture.specs.BarItems.{box_frame, box_text}
use Rattle.escpos_picture.specs.Places.{indent, moved, whole_line}
use Rattle.escpos_picture.specs.QrSides.{qr_side}
use Rattle.escpos_picture.specs.Rows.{characters_text}

unfoldable pub qr_group : ℕ → ℕ → Placing → ℕ → List ℕ
qr_group line_dots down align width = codes "<g class=\"qr\" transform=\"translate(" ++ moved (indent line_dots align width) down ++ codes ")\">\n"

unfoldable pub qr_frame : ℕ → List ℕ
qr_frame side =
    codes "<svg width=\"" ++ decimal side ++ codes "\" height=\"" ++ decimal side ++ codes "\"><rect class=\"box\" width=\"" ++ decimal side
    ++ codes "\" height=\"" ++ decimal side ++ codes "\"/></svg>\n"

-- The tags before a content of so many characters: one line of text across the middle of the box, smaller as the box is.
unfoldable pub qr_text : ℕ → ℕ → List ℕ
qr_text side count =
    codes "<svg width=\"" ++ decimal side ++ codes "\" height=\"" ++ decimal side
    ++ codes "\" viewBox=\"0 0 512 512\"><text class=\"middle\" x=\"256\" y=\"262\" textLength=\"" ++ decimal (min (12 * count) 496)
    ++ codes "\" lengthAdjust=\"spacingAndGlyphs\">"

-- All that comes before the content.
abbrev pub qr_start : ℕ → ℕ → Placing → Option ℕ → ℕ → List ℕ
qr_start line_dots down align None count = qr_group line_dots down whole_line line_dots ++ box_frame line_dots 0 BOX_HEIGHT ++ box_text line_dots 0 BOX_HEIGHT count
qr_start line_dots down align (Some side) count = qr_group line_dots down align side ++ qr_frame side ++ qr_text side count

abbrev pub qr_drawing : ℕ → ℕ → Placing → ℕ → Correction → List ℕ → List ℕ
qr_drawing line_dots down align size level content =
    qr_start line_dots down align (qr_side line_dots size level content) (length content) ++ characters_text 0 0 content ++ codes "</text></svg>\n</g>\n"
