-- What the second profile prints: no line upside down, no margin, no feed with a spacing, barcodes of its symbologies, and only characters that
-- follow one another and whose strike, reverse and character set are as at power on. So the text of its paper has styles of six fields and no
-- places. (A row of the characters `upside ` looks as one that is upside down.)
use Rattle.std.specs.Prelude.{◌≡◌, ◌≤◌, false, IsTrue, None}
use Rattle.std.specs.List.{AllByRecursion}
use Rattle.escpos_command.specs.EarlierProfiles.{symbology_since}
use Rattle.escpos_paper.specs.declared.cell.Cell.{Cell}
use Rattle.escpos_paper.specs.declared.item.Item.{Item}
use Rattle.escpos_paper.specs.declared.item.Item.TheVariants.{Row, Feed, Bars, Raster, Qr}
use Rattle.escpos_paper.specs.declared.style.Placing.{Placing}
use Rattle.escpos_paper.specs.ItemsText.{has_six_fields}

abbrev pub IsSecondCell : Cell → Type 0
IsSecondCell x = IsTrue (has_six_fields x.style) × (x.moved ≡ None)

-- The whole line is the printing area.
abbrev pub IsWholeLine : Placing → Type 0
IsWholeLine p = (p.margin ≡ 0) × (p.width ≡ None)

abbrev pub IsSecondItem : Item → Type 0
IsSecondItem (Row align upside_down cells) = (upside_down ≡ false) × IsWholeLine align × AllByRecursion IsSecondCell cells
IsSecondItem (Feed lines spacing) = spacing ≡ None
IsSecondItem (Bars align symbology height width place face content added) = IsWholeLine align × (symbology_since symbology ≤ 2)
IsSecondItem (Raster align scale x y dots) = IsWholeLine align
IsSecondItem (Qr align model size level content) = ⊥
IsSecondItem _ = Unit {0}
