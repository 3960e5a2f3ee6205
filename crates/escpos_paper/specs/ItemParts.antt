-- The line of an item in the parts in which it is put: the dots of a raster and the content of a QR code may be many, and all that
-- comes before them is short. Only private clauses, invariants and proofs use these definitions.
use Rattle.std.specs.Prelude.{ℕ, List, [], ◌++◌, codes, decimal}
use Rattle.escpos_paper.specs.declared.item.Item.{Item}
use Rattle.escpos_paper.specs.declared.item.Item.TheVariants.{Raster, Qr}
use Rattle.escpos_paper.specs.ItemsText.{placing_text, correction_name, scale_name, words}

-- All of the line that isn't dots or the content of a QR code.
abbrev pub front : Item → List ℕ
front (Raster align scale x y dots) =
    codes "raster " ++ placing_text align ++ codes " " ++ scale_name scale ++ codes " " ++ decimal x ++ codes " " ++ decimal y ++ codes " "
front (Qr align model size level content) =
    codes "qr " ++ placing_text align ++ codes " " ++ decimal model ++ codes " " ++ decimal size ++ codes " " ++ correction_name level ++ codes " "
front item = words item

-- The dots that follow, which only a raster has.
abbrev pub dots_of : Item → List ℕ
dots_of (Raster align scale x y dots) = dots
dots_of item = []

-- The characters that follow, which only a QR code has.
abbrev pub characters_of : Item → List ℕ
characters_of (Qr align model size level content) = content
characters_of item = []
