-- How far down the paper an item goes, and where it begins. Widths and heights are dots, places down the paper quarters of a dot.
use Rattle.std.specs.Prelude.{ℕ, ◌+◌, ◌-◌, ◌*◌, ◌/◌, ◌==◌, min, max, List, [], ◌∷◌, ◌++◌, Option, None, Some, codes, decimal, if◌then◌else◌}
use Rattle.escpos_command.specs.declared.parameter.choices.Alignment.{Alignment}
use Rattle.escpos_command.specs.declared.parameter.choices.Alignment.TheVariants.{Left, Center, Right}
use Rattle.escpos_command.specs.declared.parameter.choices.FontFace.{FontFace}
use Rattle.escpos_command.specs.declared.parameter.choices.FontFace.TheVariants.{A, B}
use Rattle.escpos_command.specs.declared.parameter.choices.HriPosition.{HriPosition}
use Rattle.escpos_command.specs.declared.parameter.choices.HriPosition.TheVariants as place
use Rattle.escpos_command.specs.declared.parameter.choices.Scale.{Scale}
use Rattle.escpos_command.specs.declared.parameter.choices.Scale.TheVariants as scale
use Rattle.escpos_paper.specs.declared.cell.Cell.{Cell}
use Rattle.escpos_paper.specs.declared.style.Placing.{Placing}
use Rattle.escpos_paper.specs.declared.style.Style.{Style}
use Rattle.escpos_paper.specs.Dots.{area_dots, face_dots, margin_dots}
use Rattle.escpos_paper.specs.declared.item.Item.{Item}
use Rattle.escpos_paper.specs.declared.item.Item.TheVariants.{Row, Feed, FeedUnits, Bars, Raster, Qr, Cut}
use Rattle.escpos_picture.specs.declared.pen.TheConstants.{DEEPEST, MARGIN}
use Rattle.escpos_picture.specs.Numbers.{quarters}
use Rattle.escpos_picture.specs.QrSides.{qr_height}

-- Font A is 24 dots high and font B 17.
abbrev pub face_height : FontFace → ℕ
face_height A = 24
face_height B = 17

-- A character that is turned is as high as it is wide otherwise. (Reference: ESC V.)
abbrev pub style_height : Style → ℕ
style_height s = if s.turned then face_dots s.font * s.width else face_height s.font * s.height

abbrev pub cell_height : Cell → ℕ
cell_height x = style_height x.style

-- The height of a row: that of its tallest cell.
abbrev pub tallest : List Cell → ℕ
tallest [] = 0
tallest (x ∷ xs) = max (cell_height x) (tallest xs)

-- How many lines of text stand beside a barcode.
abbrev pub text_lines : HriPosition → ℕ
text_lines place.Nowhere = 0
text_lines place.Above = 1
text_lines place.Below = 1
text_lines place.Both = 2

-- How many dots of paper a dot of a raster takes across and down.
abbrev pub across : Scale → ℕ
across scale.Normal = 1
across scale.Wide = 2
across scale.Tall = 1
across scale.Both = 2

abbrev pub downwards : Scale → ℕ
downwards scale.Normal = 1
downwards scale.Wide = 1
downwards scale.Tall = 2
downwards scale.Both = 2

-- The height of a line, in quarters of a dot: 30 dots (a sixth of an inch, of 180 dots to the inch), or so many motion units,
-- each half a dot. (Reference: ESC 2, ESC 3.)
abbrev pub line_depth : Option ℕ → ℕ
line_depth None = 120
line_depth (Some units) = 2 * units

-- A feed of n lines, each this deep, in quarters of a dot: the first is counted from the top of the row right above, `above` dots
-- tall, or 0 where none stands there. (Reference: ESC d.)
abbrev pub feed_depth : ℕ → ℕ → ℕ → ℕ
feed_depth line above n = if n == 0 then 0 else (line - 4 * above) + line * (n - 1)

-- What an item takes down the paper on a line of so many dots, in quarters of a dot. A motion unit is half a dot.
abbrev pub depth : ℕ → ℕ → Item → ℕ
depth line_dots above (Row align upside_down cells) = 4 * tallest cells
depth line_dots above (Feed n spacing) = feed_depth (line_depth spacing) above n
depth line_dots above (FeedUnits n) = 2 * n
depth line_dots above (Bars align symbology height width place face content added) = 4 * (height + text_lines place * face_height face)
depth line_dots above (Raster align scale x y dots) = 4 * (downwards scale * y)
depth line_dots above (Qr align model size level content) = 4 * qr_height line_dots size level content
depth line_dots above (Cut partial None) = 96
depth line_dots above (Cut partial (Some n)) = 2 * n + 96

-- The height of an item if it is a row, otherwise 0.
abbrev pub row_above : Item → ℕ
row_above (Row align upside_down cells) = tallest cells
row_above item = 0

-- Where the next item begins, on lines of so many dots: the quarters of a dot from the first item down to it, and the height of the row right above it, or
-- 0. Quarters are counted up to 2 ^ 62, which no paper comes near.
pub record Place : Type 0 where
  pub line_dots : ℕ
  pub down : ℕ
  pub above : ℕ

abbrev pub top : ℕ → Place
top line_dots = record { line_dots = line_dots; down = 0; above = 0 }

abbrev pub place_after : Place → Item → Place
place_after place item = record { line_dots = place.line_dots; down = min (place.down + depth place.line_dots place.above item) DEEPEST; above = row_above item }

abbrev pub place_after_all : Place → List Item → Place
place_after_all place [] = place
place_after_all place (item ∷ items) = place_after_all (place_after place item) items

-- How many of these free dots stand to the left of something.
abbrev pub free_left : Alignment → ℕ → ℕ
free_left Left free = 0
free_left Center free = free / 2
free_left Right free = free

-- How many dots of a line of so many dots are left free to the left of something this wide: the margin, and what its side of the printing area
-- has; what is wider than that begins so far to the left that it stays on the line.
abbrev pub indent : ℕ → Placing → ℕ → ℕ
indent line_dots p width = min (margin_dots line_dots p + free_left p.side (area_dots line_dots p - width)) (line_dots - width)

-- Where something this wide ends that is turned with the printing area; what is wider than that ends so far to the right that it stays on
-- the line.
abbrev pub turned_end : ℕ → Placing → ℕ → ℕ
turned_end line_dots p width = min (max (margin_dots line_dots p + (area_dots line_dots p - free_left p.side (area_dots line_dots p - width))) width) line_dots

-- All of the line, at its left end.
abbrev pub whole_line : Placing
whole_line = record { side = Left; margin = 0; width = None }

-- The place of a group: this many dots from the left end of the line, and this many quarters of a dot under the first item.
abbrev pub moved : ℕ → ℕ → List ℕ
moved x down = decimal (MARGIN + x) ++ codes "," ++ quarters (4 * MARGIN + down)
