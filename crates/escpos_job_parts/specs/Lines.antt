-- The lines of a listing, one for each command, with a note on a barcode whose check digit is wrong and on a command in which a
-- real-time command stands, and a last one. All numbers are decimal, and a byte is two lower-case hexadecimal digits.
use Rattle.std.specs.Prelude.{ℕ, ◌+◌, List, [], ◌∷◌, ◌++◌, length, codes, decimal}
use Rattle.escpos_command.specs.Barcodes.{barcode_mode}
use Rattle.escpos_job_parts.specs.Notes.{note_of}
use Rattle.escpos_job_parts.specs.RealTimeNotes.{real_time_note}
use Rattle.std.specs.List.{flat_map}
use Rattle.hex.specs.Hex.{encode_lower}
use Rattle.escpos_command.specs.declared.bytes.TheConstants.{LF}
use Rattle.escpos_command.specs.declared.command.Command.{Command}
use Rattle.escpos_command.specs.declared.command.Command.TheVariants as kind
use Rattle.escpos_command.specs.declared.parameter.position.PositionKind.{PositionKind}
use Rattle.escpos_command.specs.declared.parameter.position.PositionKind.TheVariants as position
use Rattle.escpos_command.specs.Reference.{name_of}
use Rattle.escpos_command.specs.declared.fault.FaultReason.{FaultReason}
use Rattle.escpos_command.specs.Places.{reason_number, reason_name}
use Rattle.escpos_command.specs.CommandTable.{row, entry_of}
use Rattle.escpos_job_parts.specs.declared.lines.TheConstants.{SPACE}

-- The name of a position.
abbrev pub position_word : PositionKind → List ℕ
position_word position.Absolute = codes "position"
position_word position.Relative = codes "move"
position_word position.LeftMargin = codes "margin"
position_word position.AreaWidth = codes "width"

-- The name of a command.
abbrev pub word_of : Command → List ℕ
word_of (kind.Char b) = codes "char"
word_of kind.Tab = codes "tab"
word_of kind.LineFeed = codes "lf"
word_of kind.Return = codes "cr"
word_of kind.Init = codes "init"
word_of (kind.Set s) = name_of s.0
word_of (kind.AutomaticStatus n) = codes "autostatus"
word_of (kind.FeedLines n) = codes "feed"
word_of (kind.FeedUnits n) = codes "units"
word_of (kind.Position p) = position_word p.0
word_of (kind.TabStops columns) = codes "tabstops"
word_of (kind.Pulse pulse) = codes "pulse"
word_of (kind.Bars bars) = codes "bars"
word_of (kind.Raster raster) = codes "raster"
word_of (kind.GraphicsStore graphics) = codes "graphics"
word_of (kind.GraphicsPrint fn) = codes "graphicsprint"
word_of (kind.QrModel n) = codes "qrmodel"
word_of (kind.QrSize n) = codes "qrsize"
word_of (kind.QrLevel n) = codes "qrlevel"
word_of (kind.QrStore stored) = codes "qrstore"
word_of kind.QrPrint = codes "qrprint"
word_of (kind.Cut cut) = codes "cut"
word_of (kind.OldCut b) = codes "oldcut"
word_of (kind.Status n) = codes "status"
word_of (kind.Mark id) = codes "mark"

-- A space and a byte.
abbrev pub byte_value : ℕ → List ℕ
byte_value n = SPACE ∷ encode_lower (n ∷ [])

-- What follows the name: the parameter bytes as sent. The id of a mark stands as it is, since its bytes can be
-- printed. A barcode has its mode and its content, a raster its scale, width and height, graphics their factors, width
-- and height, a store of QR codes its data, and tab stops their
-- columns.
abbrev pub values_of : Command → List ℕ
values_of (kind.Mark id) = SPACE ∷ id
values_of (kind.Bars bars) = byte_value (barcode_mode bars.form bars.symbology) ++ SPACE ∷ encode_lower bars.content
values_of (kind.Raster raster) = byte_value raster.scale ++ SPACE ∷ decimal raster.width ++ SPACE ∷ decimal raster.height
values_of (kind.GraphicsStore graphics) =
    byte_value graphics.head.across ++ byte_value graphics.head.down ++ SPACE ∷ decimal graphics.head.width ++ SPACE ∷ decimal graphics.head.height
values_of (kind.QrStore stored) = SPACE ∷ encode_lower stored
values_of (kind.TabStops columns) = flat_map byte_value columns
values_of c = flat_map byte_value (entry_of c).parameters

-- The line of a command: the number of bytes before it, its name, and what it carries; and the note on its check digit, if there is one.
abbrev pub own_line : ℕ → Command → List ℕ
own_line place c = decimal place ++ SPACE ∷ [] ++ word_of c ++ values_of c ++ LF ∷ [] ++ note_of place c

-- The line of a command, and the notes on it.
abbrev pub command_line : ℕ → Command → List ℕ
command_line place c = own_line place c ++ real_time_note place c

-- The lines of commands, the first of which has this many bytes before it.
abbrev pub command_lines : ℕ → List Command → List ℕ
command_lines place [] = []
command_lines place (c ∷ cs) = command_line place c ++ command_lines (place + length (row c)) cs

-- The last line where all bytes were read: how many, and how many of them are a half command.
abbrev pub end_line : ℕ → ℕ → List ℕ
end_line count half = codes "end " ++ decimal count ++ codes " pending " ++ decimal half ++ LF ∷ []

-- The last line where a byte is refused: its place in the input, and the reason's number and name.
abbrev pub fault_line : ℕ → FaultReason → List ℕ
fault_line place why = codes "fault " ++ decimal place ++ SPACE ∷ [] ++ decimal (reason_number why) ++ SPACE ∷ [] ++ reason_name why ++ LF ∷ []
