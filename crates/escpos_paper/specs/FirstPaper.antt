-- What the first profile prints: no feed of motion units, no raster of more than 2,047 rows, and barcodes of its symbologies.
use Rattle.std.specs.Prelude.{◌≤◌}
use Rattle.escpos_command.specs.EarlierProfiles.{symbology_since}
use Rattle.escpos_paper.specs.declared.item.Item.{Item}
use Rattle.escpos_paper.specs.declared.item.Item.TheVariants.{FeedUnits, Bars, Raster, Qr}

abbrev pub IsFirstItem : Item → Type 0
IsFirstItem (FeedUnits n) = ⊥
IsFirstItem (Raster align scale x y dots) = y ≤ 2047
IsFirstItem (Qr align model size level content) = ⊥
IsFirstItem (Bars align symbology height width place face content added) = symbology_since symbology ≤ 1
IsFirstItem _ = Unit {0}
