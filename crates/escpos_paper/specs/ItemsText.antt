-- The paper as text: one line for each item.
use Rattle.hex.specs.Hex.{encode_lower}
use Rattle.std.specs.Prelude.{ℕ, ◌+◌, ◌==◌, ◌&&◌, nat_le, not, Bool, true, false, List, [], ◌∷◌, ◌++◌, Option, None, Some, flat_map, codes, decimal, if◌then◌else◌}
use Rattle.escpos_command.specs.declared.bytes.TheConstants.{LF}
use Rattle.escpos_command.specs.declared.parameter.choices.FontFace.{FontFace}
use Rattle.escpos_command.specs.declared.parameter.choices.FontFace.TheVariants.{A, B}
use Rattle.escpos_command.specs.declared.parameter.choices.Alignment.{Alignment}
use Rattle.escpos_command.specs.declared.parameter.choices.Alignment.TheVariants.{Left, Center, Right}
use Rattle.escpos_command.specs.declared.parameter.choices.HriPosition.{HriPosition}
use Rattle.escpos_command.specs.declared.parameter.choices.HriPosition.TheVariants as place
use Rattle.escpos_command.specs.declared.parameter.choices.Correction.{Correction}
use Rattle.escpos_command.specs.declared.parameter.choices.Correction.TheVariants as correction
use Rattle.escpos_command.specs.declared.parameter.choices.Scale.{Scale}
use Rattle.escpos_command.specs.declared.parameter.choices.Scale.TheVariants as scale
use Rattle.escpos_command.specs.declared.bars.Symbology.{Symbology}
use Rattle.escpos_command.specs.declared.bars.Symbology.TheVariants.{UpcA, UpcE, Ean13, Ean8, Code39, Itf, Codabar, Code93, Code128, Gs1Code128}
use Rattle.escpos_paper.specs.declared.cell.Cell.{Cell}
use Rattle.escpos_paper.specs.declared.style.Style.{Style}
use Rattle.escpos_paper.specs.declared.item.Item.{Item}
use Rattle.escpos_paper.specs.declared.item.Item.TheVariants.{Row, Feed, FeedUnits, Bars, Raster, Qr, Cut}
use Rattle.escpos_paper.specs.declared.style.Placing.{Placing}
use Rattle.escpos_paper.specs.Cells.{left_of}
use Rattle.escpos_paper.specs.Styles.{power_on, same_style}

-- A byte 20 to 7E hexadecimal other than [ and \ is itself; any other is \ and two hexadecimal digits.
abbrev pub is_plain : ℕ → Bool
is_plain b = nat_le 0x20 b && nat_le b 0x7E && not (b == 0x5B) && not (b == 0x5C)

abbrev pub byte_text : ℕ → List ℕ
byte_text b = if is_plain b then b ∷ [] else 0x5C ∷ encode_lower (b ∷ [])

abbrev pub face_name : FontFace → List ℕ
face_name A = codes "A"
face_name B = codes "B"

-- 1 or 0.
abbrev pub flag_text : Bool → List ℕ
flag_text b = if b then codes "1" else codes "0"

-- Strike, reverse, character set, spacing, colour and turn are as at power on.
abbrev pub has_six_fields : Style → Bool
has_six_fields s = not s.strike && not s.reverse && s.character_set == 0 && s.spacing == 0 && s.color == 0 && not s.turned

-- The turn is a field where a character is turned; the colour where it isn't the first one, or a turn follows; and the space to the right of
-- a character where there is one, or a colour follows.
abbrev pub turned_field : Style → List ℕ
turned_field s = if s.turned then codes ",1" else []

abbrev pub color_field : Style → List ℕ
color_field s = if s.color == 0 && not s.turned then [] else codes "," ++ decimal s.color ++ turned_field s

abbrev pub spacing_field : Style → List ℕ
spacing_field s = if s.spacing == 0 && s.color == 0 && not s.turned then [] else codes "," ++ decimal s.spacing ++ color_field s

-- Otherwise they are fields, too.
abbrev pub further_fields : Style → List ℕ
further_fields s =
    if has_six_fields s then [] else
    codes "," ++ flag_text s.strike ++ codes "," ++ flag_text s.reverse ++ codes "," ++ decimal s.character_set ++ spacing_field s

abbrev pub six_fields : Style → List ℕ
six_fields s =
    face_name s.font ++ codes "," ++ decimal s.width ++ codes "," ++ decimal s.height ++ codes "," ++ flag_text s.bold
    ++ codes "," ++ decimal s.underline ++ codes "," ++ decimal s.table

-- A style: [F,W,H,B,U,T] with the font A or B, width, height, emphasis as 1 or 0, underline and table; or
-- [F,W,H,B,U,T,S,R,C], with strike and reverse as 1 or 0, and character set; or [F,W,H,B,U,T,S,R,C,N], with the space to the
-- right of the character; or [F,W,H,B,U,T,S,R,C,N,K], with the number of its colour; or [F,W,H,B,U,T,S,R,C,N,K,1] for one that is turned.
abbrev pub style_text : Style → List ℕ
style_text s = codes "[" ++ six_fields s ++ further_fields s ++ codes "]"

-- A cell after one of the style `before`: its style, where that differs, and its byte.
abbrev pub cell_text : Style → Cell → List ℕ
cell_text before x = (if same_style before x.style then [] else style_text x.style) ++ byte_text x.byte

-- A dot of the line. A cell that doesn't follow the one before it has that of its left edge before it, counted from the left end of the line.
abbrev pub dot_text : ℕ → List ℕ
dot_text n = codes "@" ++ decimal n

abbrev pub place_text : ℕ → Option ℕ → List ℕ
place_text margin None = []
place_text margin (Some n) = dot_text (margin + n)

-- Cells after one of the style `before`, right of this margin.
abbrev pub placed_text : ℕ → Style → Cell → List ℕ
placed_text margin before x = place_text margin x.moved ++ cell_text before x

abbrev pub cells_text : ℕ → Style → List Cell → List ℕ
cells_text margin before [] = []
cells_text margin before (x ∷ xs) = placed_text margin before x ++ cells_text margin x.style xs

-- Cells that follow one another, in the style of those before them.
abbrev pub run_text : List Cell → List ℕ
run_text xs = flat_map (λ x. byte_text x.byte) xs

-- The cells of a row. The first one follows the left end of the line where there is no margin.
abbrev pub first_place : ℕ → Cell → List ℕ
first_place margin x = if margin == 0 then place_text 0 x.moved else dot_text (margin + left_of 0 x)

abbrev pub row_text : ℕ → List Cell → List ℕ
row_text margin [] = []
row_text margin (x ∷ xs) = first_place margin x ++ cell_text power_on x ++ cells_text margin x.style xs

abbrev pub align_name : Alignment → List ℕ
align_name Left = codes "left"
align_name Center = codes "center"
align_name Right = codes "right"

abbrev pub symbology_name : Symbology → List ℕ
symbology_name UpcA = codes "upca"
symbology_name UpcE = codes "upce"
symbology_name Ean13 = codes "ean13"
symbology_name Ean8 = codes "ean8"
symbology_name Code39 = codes "code39"
symbology_name Itf = codes "itf"
symbology_name Codabar = codes "codabar"
symbology_name Code93 = codes "code93"
symbology_name Code128 = codes "code128"
symbology_name Gs1Code128 = codes "gs1_128"

abbrev pub place_name : HriPosition → List ℕ
place_name place.Nowhere = codes "none"
place_name place.Above = codes "above"
place_name place.Below = codes "below"
place_name place.Both = codes "both"

abbrev pub scale_name : Scale → List ℕ
scale_name scale.Normal = codes "normal"
scale_name scale.Wide = codes "wide"
scale_name scale.Tall = codes "tall"
scale_name scale.Both = codes "both"

-- The settings of a barcode: height, module width, and place and font of its interpretation.
abbrev pub settings_text : ℕ → ℕ → HriPosition → FontFace → List ℕ
settings_text height width place face =
    decimal height ++ codes " " ++ decimal width ++ codes " " ++ place_name place ++ codes " " ++ face_name face

-- The content of a barcode, followed by the check digit that is added, if there is one.
abbrev pub added_text : Option ℕ → List ℕ
added_text None = []
added_text (Some n) = decimal n

abbrev pub content_text : List ℕ → Option ℕ → List ℕ
content_text content added = flat_map byte_text content ++ added_text added

abbrev pub correction_name : Correction → List ℕ
correction_name correction.L = codes "L"
correction_name correction.M = codes "M"
correction_name correction.Q = codes "Q"
correction_name correction.H = codes "H"

abbrev pub cut_name : Bool → List ℕ
cut_name partial = if partial then codes "partial" else codes "full"

-- The feed of a cut, if it has one.
abbrev pub feed_text : Option ℕ → List ℕ
feed_text None = []
feed_text (Some n) = codes " " ++ decimal n

-- A row that is printed upside down says so.
abbrev pub upside_text : Bool → List ℕ
upside_text upside_down = if upside_down then codes "upside " else []

-- The spacing of a feed, if it isn't the default.
abbrev pub spacing_text : Option ℕ → List ℕ
spacing_text None = []
spacing_text (Some n) = codes " spacing " ++ decimal n

-- The margin and the width of the printing area, where they aren't those of the whole line.
abbrev pub margin_text : ℕ → List ℕ
margin_text margin = if margin == 0 then [] else codes " margin " ++ decimal margin

abbrev pub width_text : Option ℕ → List ℕ
width_text None = []
width_text (Some n) = codes " width " ++ decimal n

-- Where an item stands.
abbrev pub placing_text : Placing → List ℕ
placing_text p = align_name p.side ++ margin_text p.margin ++ width_text p.width

-- Where a row stands: the cells of one at the left that isn't upside down say all that the margin does.
abbrev pub is_left : Alignment → Bool
is_left Left = true
is_left _ = false

abbrev pub row_placing : Placing → Bool → List ℕ
row_placing p upside_down = if is_left p.side && not upside_down then align_name p.side else placing_text p

-- The line of an item, without its end. The first cell of a row is compared with the power-on style.
abbrev pub words : Item → List ℕ
words (Row align upside_down cells) = codes "row " ++ row_placing align upside_down ++ codes " " ++ upside_text upside_down ++ row_text align.margin cells
words (Feed n spacing) = codes "feed " ++ decimal n ++ spacing_text spacing
words (FeedUnits n) = codes "units " ++ decimal n
words (Bars align symbology height width place face content added) =
    codes "bars " ++ placing_text align ++ codes " " ++ symbology_name symbology ++ codes " " ++ settings_text height width place face
    ++ codes " " ++ content_text content added
words (Raster align scale x y dots) =
    codes "raster " ++ placing_text align ++ codes " " ++ scale_name scale ++ codes " " ++ decimal x ++ codes " " ++ decimal y ++ codes " "
    ++ encode_lower dots
words (Qr align model size level content) =
    codes "qr " ++ placing_text align ++ codes " " ++ decimal model ++ codes " " ++ decimal size ++ codes " " ++ correction_name level ++ codes " "
    ++ flat_map byte_text content
words (Cut partial feed) = codes "cut " ++ cut_name partial ++ feed_text feed

abbrev pub item_text : Item → List ℕ
item_text item = words item ++ LF ∷ []

abbrev pub items_text : List Item → List ℕ
items_text items = flat_map item_text items
