-- What commands print, for each width of the line in dots.
use Rattle.std.specs.Prelude.{ℕ, nat_lt, true, List, [], ◌∷◌, ◌++◌, Option, None, Some, length, if◌then◌else◌}
use Rattle.escpos_command.specs.declared.command.Command.{Command}
use Rattle.escpos_command.specs.declared.command.Command.TheVariants as kind
use Rattle.escpos_paper.specs.declared.style.Placing.{Placing}
use Rattle.escpos_command.specs.Meanings.{choice, leaves_a_point, scale_by, scale_of}
use Rattle.escpos_command.specs.Barcodes.{Barcode}
use Rattle.escpos_command.specs.Graphics.{StoredPicture, row_bytes}
use Rattle.escpos_command.specs.Settings.{stored, stored_graphics}
use Rattle.escpos_command.specs.Rasters.{Picture}
use Rattle.escpos_paper.specs.declared.cell.Cell.{Cell}
use Rattle.escpos_paper.specs.declared.item.Item.{Item}
use Rattle.escpos_paper.specs.declared.item.Item.TheVariants.{Row, Feed, FeedUnits, Bars, Raster, Qr, Cut}
use Rattle.escpos_paper.specs.OverPlaces.{over_places}
use Rattle.escpos_paper.specs.declared.style.BarStyle.{BarStyle}
use Rattle.escpos_paper.specs.declared.style.LineStyle.{LineStyle}
use Rattle.escpos_paper.specs.declared.style.QrStyle.{QrStyle}
use Rattle.escpos_paper.specs.Styles.{line_style, bar_style, qr_style}
use Rattle.escpos_paper.specs.CheckDigit.{added_digit}
use Rattle.escpos_paper.specs.Rows.{rows, line}

-- A line as an item, if it has a cell.
abbrev pub row_of : LineStyle → List Cell → List Item
row_of style [] = []
row_of style (x ∷ xs) = Row style.alignment style.upside_down (x ∷ xs) ∷ []

-- The same, with a feed of one line after it.
abbrev pub row_and_feed : LineStyle → List Cell → List Item
row_and_feed style [] = []
row_and_feed style (x ∷ xs) = Row style.alignment style.upside_down (x ∷ xs) ∷ Feed 1 style.spacing ∷ []

-- A barcode as an item, in the settings of barcodes, with the check digit that its content lacks.
abbrev pub bars_item : Placing → BarStyle → Barcode → Item
bars_item align style bars =
    Bars align bars.symbology style.height style.module_width style.place style.hri_font bars.content
    (added_digit bars.symbology bars.content)

-- A raster as an item.
abbrev pub raster_item : Placing → Picture → Item
raster_item align raster = Raster align (scale_of (choice raster.scale)) raster.width raster.height raster.dots

-- A QR code as an item.
abbrev pub qr_item : Placing → QrStyle → List ℕ → Item
qr_item align style bytes = Qr align style.model style.size style.correction bytes

-- The QR code of the data that is stored, after the line; nothing if none is.
abbrev pub prints_stored : LineStyle → QrStyle → Option (List ℕ) → List Cell → List Item
prints_stored lines style None row = []
prints_stored lines style (Some bytes) row = row_and_feed lines row ++ qr_item lines.alignment style bytes ∷ []

-- Graphics as an item.
abbrev pub graphics_item : Placing → StoredPicture → Item
graphics_item align p = Raster align (scale_by p.head.across p.head.down) (row_bytes p.head.width) p.head.height p.dots

-- The graphics that are stored, after the line; nothing if none are.
abbrev pub prints_graphics : LineStyle → Option StoredPicture → List Cell → List Item
prints_graphics lines None row = []
prints_graphics lines (Some p) row = row_and_feed lines row ++ graphics_item lines.alignment p ∷ []

-- What a command prints after others. LF, ESC d and ESC J print the line and their feed; a barcode, a raster, graphics, a QR code
-- or a cut prints the line with a feed of one, then the item; a character that begins a row prints the line before it with a feed of
-- one.
abbrev pub prints : ℕ → List Command → Command → List Item
prints width before (kind.Char b) =
    if nat_lt (length (rows width before)) (length (rows width (before ++ kind.Char b ∷ []))) then row_and_feed (line_style before) (line width before) else []
prints width before kind.LineFeed = row_of (line_style before) (line width before) ++ Feed 1 (line_style before).spacing ∷ []
prints width before (kind.FeedLines n) = row_of (line_style before) (line width before) ++ Feed n (line_style before).spacing ∷ []
prints width before (kind.FeedUnits n) = row_of (line_style before) (line width before) ++ FeedUnits n ∷ []
prints width before (kind.Bars bars) =
    row_and_feed (line_style before) (line width before) ++ bars_item ((line_style before).alignment) (bar_style before) bars ∷ []
prints width before (kind.Raster raster) = row_and_feed (line_style before) (line width before) ++ raster_item ((line_style before).alignment) raster ∷ []
prints width before (kind.Cut cut) = row_and_feed (line_style before) (line width before) ++ Cut (leaves_a_point cut.0) cut.1 ∷ []
prints width before (kind.OldCut b) = row_and_feed (line_style before) (line width before) ++ Cut true None ∷ []
prints width before kind.QrPrint = prints_stored (line_style before) (qr_style before) (stored before) (line width before)
prints width before (kind.GraphicsPrint fn) = prints_graphics (line_style before) (stored_graphics before) (line width before)
prints width before (kind.GraphicsStore graphics) = []
prints width before (kind.QrModel n) = []
prints width before (kind.QrSize n) = []
prints width before (kind.QrLevel n) = []
prints width before (kind.QrStore bytes) = []
prints width before kind.Tab = []
prints width before (kind.Position p) = []
prints width before (kind.TabStops columns) = []
prints width before kind.Return = []
prints width before kind.Init = []
prints width before (kind.Set s) = []
prints width before (kind.Pulse pulse) = []
prints width before (kind.AutomaticStatus n) = []
prints width before (kind.Status n) = []
prints width before (kind.Mark id) = []

-- What a list of commands prints: at each place, what the command there prints after those before it.
abbrev pub printed : ℕ → List Command → List Item
printed width cs = over_places (λ before c following. prints width before c) [] cs
