-- What items take down the paper together, and the sizes that keep this far from the deepest place that is counted. Only laws use
-- these definitions.
use Rattle.std.specs.Prelude.{ℕ, ◌+◌, ◌<◌, ⊤, List, [], ◌∷◌, None, Some, if◌then◌else◌}
use Rattle.std.specs.List.{AllByRecursion}
use Rattle.escpos_paper.specs.declared.cell.Cell.{Cell}
use Rattle.escpos_paper.specs.declared.item.Item.{Item}
use Rattle.escpos_paper.specs.declared.item.Item.TheVariants.{Row, Feed, FeedUnits, Bars, Raster, Qr, Cut}
use Rattle.escpos_paper.specs.declared.style.BarStyle.{BarStyle}
use Rattle.escpos_picture.specs.Places.{depth, row_above, face_height}
use Rattle.escpos_picture.specs.BarItems.{stands_below}

-- The sum of what items take, in quarters of a dot, under a row that is `above` dots tall, or 0 where none stands there.
abbrev pub depths : ℕ → ℕ → List Item → ℕ
depths line_dots above [] = 0
depths line_dots above (item ∷ items) = depth line_dots above item + depths line_dots (row_above item) items

-- The height of the row right under which the next item stands: that of the last item, if it is a row, otherwise 0.
abbrev pub row_above_next : ℕ → List Item → ℕ
row_above_next above [] = above
row_above_next above (item ∷ items) = row_above_next (row_above item) items

-- How much the line of text below the bars of a barcode takes, in dots.
abbrev pub bars_bottom : BarStyle → ℕ
bars_bottom style = if stands_below style.place then face_height style.hri_font else 0

-- The sizes of an item are numbers that its fields can hold: two bytes for the rows of a raster, one byte for all others. No
-- QR code is higher than the line is wide, or than the box of one that doesn't fit.
abbrev pub HasSizes : Item → Type 0
HasSizes (Row align upside_down cells) = AllByRecursion (λ (x : Cell). (x.style.height < 256) × (x.style.width < 256)) cells
HasSizes (Feed n None) = n < 256
HasSizes (Feed n (Some units)) = (n < 256) × (units < 256)
HasSizes (FeedUnits n) = n < 256
HasSizes (Bars align symbology height width place face content added) = height < 256
HasSizes (Raster align scale x y dots) = y < 65536
HasSizes (Qr align model size level content) = ⊤
HasSizes (Cut partial None) = ⊤
HasSizes (Cut partial (Some n)) = n < 256
