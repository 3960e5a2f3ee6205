-- How large a QR code is drawn, in dots.
use Rattle.std.specs.Prelude.{ℕ, ◌*◌, nat_le, List, Option, None, Some, if◌then◌else◌}
use Rattle.escpos_command.specs.declared.parameter.choices.Correction.{Correction}
use Rattle.escpos_barcode.specs.QrSizes.{qr_modules}
use Rattle.escpos_picture.specs.declared.qr.TheConstants.{BOX_HEIGHT}

-- How long a side of so many modules of this size is, in dots, if that fits on the line.
abbrev pub dots_of : ℕ → ℕ → Option ℕ → Option ℕ
dots_of line_dots size None = None
dots_of line_dots size (Some modules) = if nat_le (size * modules) line_dots then Some (size * modules) else None

-- The side of the smallest QR code that holds a content, in dots, if there is one that fits on the line.
abbrev pub qr_side : ℕ → ℕ → Correction → List ℕ → Option ℕ
qr_side line_dots size level content = dots_of line_dots size (qr_modules level content)

-- How high it is drawn. One that a printer would not print is a box of two lines of text.
abbrev pub height_of : Option ℕ → ℕ
height_of None = BOX_HEIGHT
height_of (Some side) = side

abbrev pub qr_height : ℕ → ℕ → Correction → List ℕ → ℕ
qr_height line_dots size level content = height_of (qr_side line_dots size level content)
