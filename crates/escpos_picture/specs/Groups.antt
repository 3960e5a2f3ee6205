-- Each item as a group of the document, on lines of so many dots, whose class is its kind, moved to its place: across by the margin and by what is left
-- free of the line, down by the margin and by what the items above take.
use Rattle.std.specs.Prelude.{ℕ, ◌+◌, ◌*◌, ◌/◌, max, Bool, true, false, List, [], ◌∷◌, ◌++◌, Option, None, Some, codes, decimal, if◌then◌else◌}
use Rattle.escpos_paper.specs.declared.style.Placing.{Placing}
use Rattle.escpos_command.specs.declared.parameter.choices.Scale.{Scale}
use Rattle.escpos_paper.specs.declared.cell.Cell.{Cell}
use Rattle.escpos_paper.specs.declared.item.Item.{Item}
use Rattle.escpos_paper.specs.declared.item.Item.TheVariants.{Row, Feed, FeedUnits, Bars, Raster, Qr, Cut}
use Rattle.escpos_paper.specs.Cells.{reach_of}
use Rattle.escpos_picture.specs.Numbers.{quarters}
use Rattle.escpos_picture.specs.Places.{Place, tallest, indent, turned_end, across, downwards, place_after, moved}
use Rattle.escpos_picture.specs.Rows.{runs, runs_drawing}
use Rattle.escpos_picture.specs.Rasters.{rows_of, rows_text}
use Rattle.escpos_picture.specs.BarItems.{bars_drawing}
use Rattle.escpos_picture.specs.QrItems.{qr_drawing}
use Rattle.escpos_picture.specs.declared.pen.TheConstants.{MARGIN}

-- A row. Its place is the left end of its base line, three quarters of its height down. A row that is upside down is turned with
-- its printing area, as a printer does: its place is the end of its base line that is then the right one, a quarter of its height down.
abbrev pub base_line : Bool → ℕ → ℕ
base_line upside_down height = if upside_down then height else 3 * height

abbrev pub row_start : ℕ → Placing → Bool → ℕ → ℕ
row_start line_dots p upside_down width = if upside_down then turned_end line_dots p width else indent line_dots p width

abbrev pub row_turn : Bool → List ℕ
row_turn upside_down = if upside_down then codes ") rotate(180)\">" else codes ")\">"

abbrev pub row_tag : ℕ → ℕ → Placing → Bool → List Cell → List ℕ
row_tag line_dots down align upside_down cells =
    codes "<g class=\"row\" transform=\"translate(" ++ moved (row_start line_dots align upside_down (reach_of cells)) (down + base_line upside_down (tallest cells))
    ++ row_turn upside_down

abbrev pub row_drawing : ℕ → ℕ → Placing → Bool → List Cell → List ℕ
row_drawing line_dots down align upside_down cells = row_tag line_dots down align upside_down cells ++ runs_drawing 0 (runs cells) ++ codes "</g>\n"

abbrev pub feed_drawing : List ℕ
feed_drawing = codes "<g class=\"feed\"/>\n"

abbrev pub units_drawing : List ℕ
units_drawing = codes "<g class=\"units\"/>\n"

-- A raster, clipped to the line. Each of its dots is one unit of the inner group, which its scale makes one or two dots of paper;
-- the outer group, which is what is clipped, is in dots.
unfoldable pub scale_text : Scale → List ℕ
scale_text scale = codes ")\"><g transform=\"scale(" ++ decimal (across scale) ++ codes "," ++ decimal (downwards scale) ++ codes ")\">\n"

unfoldable pub raster_start : ℕ → ℕ → Placing → Scale → ℕ → List ℕ
raster_start line_dots down align scale x =
    codes "<g class=\"raster\" transform=\"translate(" ++ moved (indent line_dots align (8 * x * across scale)) down ++ scale_text scale

abbrev pub raster_drawing : ℕ → ℕ → Placing → Scale → ℕ → ℕ → List ℕ → List ℕ
raster_drawing line_dots down align scale x y dots = raster_start line_dots down align scale x ++ rows_text 0 (rows_of x y dots) ++ codes "</g></g>\n"

-- A cut: a pair of scissors at the left edge of the paper, and a dashed line across it, 12 dots under the feed that comes before.
-- A partial cut leaves the middle whole, 32 dots of it.
abbrev pub cut_place : Option ℕ → ℕ
cut_place None = 0
cut_place (Some n) = 2 * n

abbrev pub cut_line : ℕ → Bool → List ℕ
cut_line line_dots true =
    codes "M32 12H" ++ decimal (max MARGIN (line_dots / 2 + 16)) ++ codes "M" ++ decimal (line_dots / 2 + 48) ++ codes " 12H" ++ decimal (line_dots + 2 * MARGIN)
cut_line line_dots false = codes "M32 12H" ++ decimal (line_dots + 2 * MARGIN)

abbrev pub cut_drawing : ℕ → ℕ → Bool → Option ℕ → List ℕ
cut_drawing line_dots down partial feed =
    codes "<g class=\"cut\" transform=\"translate(0," ++ quarters (4 * MARGIN + down + cut_place feed)
    ++ codes ")\"><circle cx=\"8\" cy=\"6\" r=\"4\"/><circle cx=\"8\" cy=\"18\" r=\"4\"/><path d=\"M11 9L28 18M11 15L28 6\"/><path class=\"dashes\" d=\""
    ++ cut_line line_dots partial ++ codes "\"/></g>\n"

-- The drawing of an item that begins this many quarters of a dot under the first.
abbrev pub drawing_at : ℕ → ℕ → Item → List ℕ
drawing_at line_dots down (Row align upside_down cells) = row_drawing line_dots down align upside_down cells
drawing_at line_dots down (Feed n spacing) = feed_drawing
drawing_at line_dots down (FeedUnits n) = units_drawing
drawing_at line_dots down (Bars align symbology height width hri_place face content added) =
    bars_drawing line_dots down align symbology (record { height = height; module_width = width; place = hri_place; hri_font = face }) content added
drawing_at line_dots down (Raster align scale x y dots) = raster_drawing line_dots down align scale x y dots
drawing_at line_dots down (Qr align model size level content) = qr_drawing line_dots down align size level content
drawing_at line_dots down (Cut partial feed) = cut_drawing line_dots down partial feed

-- The drawing of an item at a place.
unfoldable pub drawing : Place → Item → List ℕ
drawing place item = drawing_at place.line_dots place.down item

-- Items one under another, the first at this place.
unfoldable pub drawings : Place → List Item → List ℕ
drawings place [] = []
drawings place (item ∷ items) = drawing place item ++ drawings (place_after place item) items
