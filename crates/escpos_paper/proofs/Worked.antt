-- Worked rows, computed from the definitions alone.
use Rattle.std.proofs.Common.{◌≡◌, ℕ, [], ◌∷◌, ◌++◌, refl, ap, true, false}
use Rattle.std.specs.Prelude.{◌-◌, None, Some, replicate, map, length}
use Rattle.escpos_command.specs.declared.command.Command.{Command}
use Rattle.escpos_command.specs.declared.setting.SettingKind.{SettingKind}
use Rattle.escpos_command.specs.declared.command.Command.TheVariants.{Char, Tab, Position, TabStops, LineFeed, Init, Set, FeedLines, FeedUnits, Pulse, Bars, Raster, GraphicsStore, GraphicsPrint, Cut}
use Rattle.escpos_command.specs.declared.setting.SettingKind.TheVariants as sets
use Rattle.escpos_command.specs.declared.parameter.choices.FontFace.TheVariants.{A, B}
use Rattle.escpos_command.specs.declared.parameter.choices.HriPosition.TheVariants.{Nowhere, Below}
use Rattle.escpos_command.specs.declared.parameter.choices.Scale.TheVariants.{Normal, Wide}
use Rattle.escpos_command.specs.declared.bars.Form.TheVariants as form
use Rattle.escpos_command.specs.declared.bars.Symbology.TheVariants.{Ean13, Itf}
use Rattle.escpos_command.specs.Barcodes.{barcode}
use Rattle.escpos_command.specs.Rasters.{picture}
use Rattle.escpos_command.specs.Graphics.{stored_picture}
use Rattle.escpos_command.specs.declared.graphics.GraphicsHead.{GraphicsHead}
use Rattle.escpos_command.specs.declared.graphics.GraphicsForm.TheVariants.{Short}
use Rattle.escpos_command.specs.declared.parameter.choices.Alignment.{Alignment}
use Rattle.escpos_command.specs.declared.parameter.choices.Alignment.TheVariants.{Left, Center}
use Rattle.escpos_command.specs.declared.parameter.position.PositionKind.TheVariants as position
use Rattle.escpos_paper.specs.declared.style.Placing.{Placing}
use Rattle.escpos_paper.specs.declared.item.Item.TheVariants.{Row, Feed, FeedUnits as Units, Bars as Barred, Raster as Dotted, Cut as Cutting}
use Rattle.escpos_paper.specs.Styles.{power_on}
use Rattle.escpos_paper.specs.Cells.{cell}
use Rattle.escpos_paper.specs.CheckDigit.{digit}
use Rattle.escpos_paper.specs.Rows.{rows}
use Rattle.escpos_paper.specs.SecondPaper.{IsSecondCell, IsSecondItem}
use Rattle.escpos_paper.specs.Printed.{printed}
use Rattle.escpos_paper.specs.ItemsText.{items_text}
use Rattle.escpos_paper.proofs.AllCuts.{rows_filled}
use Rattle.std.specs.Prelude.{codes}
use Rattle.std.specs.Fmt.{digits}
use Rattle.hex.specs.Hex.{encode_with}

-- A side of the whole line.
abbrev on_line : Alignment → Placing
on_line side = record { side = side; margin = 0; width = None }

abbrev left : Placing
left = on_line Left

abbrev center : Placing
center = on_line Center

-- A setting with a parameter.
abbrev set : SettingKind → ℕ → Command
set which n = Set (which, Some n)

-- Init, H, i, LF, a cut
five_commands : printed 512 (Init ∷ Char 0x48 ∷ Char 0x69 ∷ LineFeed ∷ Cut (0, None) ∷ [])
    ≡ Row left false (cell power_on 0x48 ∷ cell power_on 0x69 ∷ []) ∷ Feed 1 None ∷ Cutting false None ∷ []
five_commands = refl

-- an Align in mid-line has no effect, one on an empty line has one
align_in_mid_line : printed 512 (Char 0x41 ∷ Char 0x42 ∷ set sets.Align 1 ∷ Char 0x43 ∷ LineFeed ∷ set sets.Align 1 ∷ Char 0x44 ∷ LineFeed ∷ [])
    ≡ Row left false (cell power_on 0x41 ∷ cell power_on 0x42 ∷ cell power_on 0x43 ∷ []) ∷ Feed 1 None ∷ Row center false (cell power_on 0x44 ∷ []) ∷ Feed 1 None ∷ []
align_in_mid_line = refl

-- emphasis set in mid-line is that of the characters after it
emphasis_in_mid_line : printed 512 (set sets.Emphasis 1 ∷ Char 0x41 ∷ set sets.Emphasis 0 ∷ Char 0x42 ∷ LineFeed ∷ [])
    ≡ Row left false (cell (record power_on { bold = true }) 0x41 ∷ cell power_on 0x42 ∷ []) ∷ Feed 1 None ∷ []
emphasis_in_mid_line = refl

-- ESC ! B9: font B, emphasis, double height and width, underline
mode : printed 512 (set sets.Mode 0xB9 ∷ Char 0x41 ∷ LineFeed ∷ [])
    ≡ Row left false (cell (record power_on { font = B; width = 2; height = 2; bold = true; underline = 1 }) 0x41 ∷ []) ∷ Feed 1 None ∷ []
mode = refl

-- strike, reverse and a character set are those of the characters after them, beside emphasis
strike_in_mid_line : printed 512 (set sets.Emphasis 1 ∷ set sets.DoubleStrike 1 ∷ Char 0x41 ∷ set sets.DoubleStrike 2 ∷ Char 0x42 ∷ LineFeed ∷ [])
    ≡ Row left false (cell (record power_on { bold = true; strike = true }) 0x41 ∷ cell (record power_on { bold = true }) 0x42 ∷ []) ∷ Feed 1 None ∷ []
strike_in_mid_line = refl

reverse_and_set : printed 512 (set sets.Reverse 0xFF ∷ set sets.CharacterSet 8 ∷ Char 0x41 ∷ Init ∷ Char 0x42 ∷ LineFeed ∷ [])
    ≡ Row left false (cell power_on 0x42 ∷ []) ∷ Feed 1 None ∷ []
reverse_and_set = refl

-- lines are turned upside down at their beginning alone
upside_down : printed 512 (Char 0x41 ∷ set sets.UpsideDown 1 ∷ LineFeed ∷ set sets.UpsideDown 1 ∷ Char 0x42 ∷ set sets.UpsideDown 0 ∷ LineFeed ∷ [])
    ≡ Row left false (cell power_on 0x41 ∷ []) ∷ Feed 1 None ∷ Row left true (cell power_on 0x42 ∷ []) ∷ Feed 1 None ∷ []
upside_down = refl

-- a spacing is that of the feeds after it, also in mid-line, until ESC 2 or Init
spacing : printed 512 (Char 0x41 ∷ set sets.LineSpacing 60 ∷ LineFeed ∷ FeedLines 3 ∷ Set (sets.DefaultSpacing, None) ∷ LineFeed ∷ set sets.LineSpacing 0 ∷ LineFeed ∷ Init ∷ LineFeed ∷ [])
    ≡ Row left false (cell power_on 0x41 ∷ []) ∷ Feed 1 (Some 60) ∷ Feed 3 (Some 60) ∷ Feed 1 None ∷ Feed 1 (Some 0) ∷ Feed 1 None ∷ []
spacing = refl

-- bit 0 alone switches strike and lines upside down
by_bit_0 : printed 512 (set sets.DoubleStrike 3 ∷ set sets.UpsideDown 0xFF ∷ Char 0x41 ∷ set sets.DoubleStrike 0xFE ∷ LineFeed ∷ set sets.UpsideDown 0xFE ∷ Char 0x42 ∷ LineFeed ∷ [])
    ≡ Row left true (cell (record power_on { strike = true }) 0x41 ∷ []) ∷ Feed 1 None ∷ Row left false (cell power_on 0x42 ∷ []) ∷ Feed 1 None ∷ []
by_bit_0 = refl

-- a line that ESC J prints is upside down, too, and the feed before a barcode or a raster has its spacing
upside_down_by_units : printed 512 (set sets.UpsideDown 1 ∷ Char 0x41 ∷ FeedUnits 5 ∷ []) ≡ Row left true (cell power_on 0x41 ∷ []) ∷ Units 5 ∷ []
upside_down_by_units = refl

spacing_before_items : printed 512 (set sets.LineSpacing 10 ∷ Char 0x41 ∷ Bars (barcode form.B Itf (codes "12")) ∷ Char 0x42 ∷ Raster (picture 0 1 1 (0xFF ∷ [])) ∷ [])
    ≡ Row left false (cell power_on 0x41 ∷ []) ∷ Feed 1 (Some 10) ∷ Barred left Itf 162 3 Nowhere A (codes "12") None
    ∷ Row left false (cell power_on 0x42 ∷ []) ∷ Feed 1 (Some 10) ∷ Dotted left Normal 1 1 (0xFF ∷ []) ∷ []
spacing_before_items = refl

-- an Align in mid-line has no effect on the next line either
align_lost : printed 512 (Char 0x41 ∷ set sets.Align 1 ∷ LineFeed ∷ Char 0x42 ∷ LineFeed ∷ [])
    ≡ Row left false (cell power_on 0x41 ∷ []) ∷ Feed 1 None ∷ Row left false (cell power_on 0x42 ∷ []) ∷ Feed 1 None ∷ []
align_lost = refl

-- what the second profile doesn't print
no_row_upside_down : IsSecondItem (Row left true []) → ⊥
no_row_upside_down h = let clash : true ≡ false = h.0 in cc

no_spacing : IsSecondItem (Feed 1 (Some 0)) → ⊥
no_spacing h = let clash : Some 0 ≡ None = h in cc

no_strike : IsSecondCell (cell (record power_on { strike = true }) 0x41) → ⊥
no_strike h = let clash : false ≡ true = h.0 in cc

no_reverse : IsSecondCell (cell (record power_on { reverse = true }) 0x41) → ⊥
no_reverse h = let clash : false ≡ true = h.0 in cc

no_character_set : IsSecondCell (cell (record power_on { character_set = 1 }) 0x41) → ⊥
no_character_set h = let clash : false ≡ true = h.0 in cc

no_character_spacing : IsSecondCell (cell (record power_on { spacing = 1 }) 0x41) → ⊥
no_character_spacing h = let clash : false ≡ true = h.0 in cc

no_turn : IsSecondCell (cell (record power_on { turned = true }) 0x41) → ⊥
no_turn h = let clash : false ≡ true = h.0 in cc

no_place : IsSecondCell (record (cell power_on 0x41) { moved = Some 5 }) → ⊥
no_place h = absurd (let clash : Some 5 ≡ None = h.1 in cc)

no_second_color : IsSecondCell (cell (record power_on { color = 1 }) 0x41) → ⊥
no_second_color h = let clash : false ≡ true = h.0 in cc

-- Init drops the line
init_drops_line : printed 512 (Char 0x41 ∷ Init ∷ Char 0x42 ∷ LineFeed ∷ []) ≡ Row left false (cell power_on 0x42 ∷ []) ∷ Feed 1 None ∷ []
init_drops_line = refl

-- feeds of 0 and of an empty line, and a cut after text
feed_zero : printed 512 (FeedLines 0 ∷ []) ≡ Feed 0 None ∷ []
feed_zero = refl

feed_one : printed 512 (LineFeed ∷ []) ≡ Feed 1 None ∷ []
feed_one = refl

cut_after_text : printed 512 (Char 0x41 ∷ Cut (0x41, Some 5) ∷ []) ≡ Row left false (cell power_on 0x41 ∷ []) ∷ Feed 1 None ∷ Cutting false (Some 5) ∷ []
cut_after_text = refl

-- ESC J prints the line and feeds motion units, and a pulse prints nothing
units_and_pulse : printed 512 (Char 0x41 ∷ FeedUnits 5 ∷ Pulse (0, 0x19, 0xFA) ∷ []) ≡ Row left false (cell power_on 0x41 ∷ []) ∷ Units 5 ∷ []
units_and_pulse = refl

-- the check digits of two public examples, and that of no digits
ean13_digit : digit (codes "400638133393") ≡ 1
ean13_digit = refl

upca_digit : digit (codes "03600029145") ≡ 2
upca_digit = refl

no_digit : digit [] ≡ 0
no_digit = refl

-- a barcode without its check digit and one with a wrong one
ean13 : printed 512 (Bars (barcode form.A Ean13 (codes "400638133393")) ∷ Bars (barcode form.A Ean13 (codes "4006381333932")) ∷ [])
    ≡ Barred left Ean13 162 3 Nowhere A (codes "400638133393") (Some 1) ∷ Barred left Ean13 162 3 Nowhere A (codes "4006381333932") None ∷ []
ean13 = refl

-- the settings of barcodes, and those after Init
bar_settings : printed 512 (set sets.BarHeight 50 ∷ set sets.BarWidth 2 ∷ set sets.HriPlace 50 ∷ set sets.HriFont 49 ∷ Bars (barcode form.B Itf (codes "12")) ∷ Init ∷ Bars (barcode form.B Itf (codes "12")) ∷ [])
    ≡ Barred left Itf 50 2 Below B (codes "12") None ∷ Barred left Itf 162 3 Nowhere A (codes "12") None ∷ []
bar_settings = refl

-- a raster ends the line before it
raster_after_text : printed 512 (Char 0x41 ∷ Raster (picture 0 1 1 (0xFF ∷ [])) ∷ [])
    ≡ Row left false (cell power_on 0x41 ∷ []) ∷ Feed 1 None ∷ Dotted left Normal 1 1 (0xFF ∷ []) ∷ []
raster_after_text = refl

-- graphics are printed where a print comes after their store, and once; a store ends no line, and one of other dots than its size's leaves what
-- was stored
abbrev nine_dots : GraphicsHead
nine_dots = record { form = Short; across = 2; down = 1; width = 9; height = 1 }

graphics_once : printed 512 (GraphicsStore (stored_picture nine_dots (0xFF ∷ 0x80 ∷ [])) ∷ Char 0x41 ∷ GraphicsStore (stored_picture nine_dots (0xFF ∷ []))
    ∷ GraphicsPrint 50 ∷ Char 0x42 ∷ GraphicsPrint 2 ∷ LineFeed ∷ [])
    ≡ Row left false (cell power_on 0x41 ∷ []) ∷ Feed 1 None ∷ Dotted left Wide 2 1 (0xFF ∷ 0x80 ∷ [])
    ∷ Row left false (cell power_on 0x42 ∷ []) ∷ Feed 1 None ∷ []
graphics_once = refl

-- at width 8 five characters of font A fit, and the sixth begins a row
wide : printed 512 (set sets.Size 0x70 ∷ replicate 6 (Char 0x61) ++ LineFeed ∷ [])
    ≡ (let x = cell (record power_on { width = 8 }) 0x61 in
    Row left false (x ∷ x ∷ x ∷ x ∷ x ∷ []) ∷ Feed 1 None ∷ Row left false (x ∷ []) ∷ Feed 1 None ∷ [])
wide = refl

-- 42 characters of font A fill a line, and 56 of font B. There are too many ways to cut so many cells; the plain program
-- finds the one.
font_a : map length (rows 512 (replicate 43 (Char 0x61))) ≡ 42 ∷ 1 ∷ []
font_a = ap (map length) (rows_filled 512 (replicate 43 (Char 0x61)))

font_b : map length (rows 512 (set sets.Font 1 ∷ replicate 57 (Char 0x61))) ≡ 56 ∷ 1 ∷ []
font_b = ap (map length) (rows_filled 512 (set sets.Font 1 ∷ replicate 57 (Char 0x61)))

-- 32 fill it with 4 dots of space after each, and 16 at width 2, which magnifies the space
spaced : map length (rows 512 (set sets.CharacterSpacing 4 ∷ replicate 33 (Char 0x61))) ≡ 32 ∷ 1 ∷ []
spaced = ap (map length) (rows_filled 512 (set sets.CharacterSpacing 4 ∷ replicate 33 (Char 0x61)))

spaced_double : map length (rows 512 (set sets.CharacterSpacing 4 ∷ set sets.Size 0x10 ∷ replicate 17 (Char 0x61))) ≡ 16 ∷ 1 ∷ []
spaced_double = ap (map length) (rows_filled 512 (set sets.CharacterSpacing 4 ∷ set sets.Size 0x10 ∷ replicate 17 (Char 0x61)))

-- a character of 2,136 dots is alone in its row
spaced_alone : map length (rows 1024 (set sets.CharacterSpacing 255 ∷ set sets.Size 0x70 ∷ replicate 2 (Char 0x61))) ≡ 1 ∷ 1 ∷ []
spaced_alone = ap (map length) (rows_filled 1024 (set sets.CharacterSpacing 255 ∷ set sets.Size 0x70 ∷ replicate 2 (Char 0x61)))

-- other widths: 384 dots, 576 and the most, 1,024
narrow_paper : map length (rows 384 (replicate 33 (Char 0x61))) ≡ 32 ∷ 1 ∷ []
narrow_paper = ap (map length) (rows_filled 384 (replicate 33 (Char 0x61)))

narrow_paper_double : map length (rows 384 (set sets.Size 0x10 ∷ replicate 17 (Char 0x61))) ≡ 16 ∷ 1 ∷ []
narrow_paper_double = ap (map length) (rows_filled 384 (set sets.Size 0x10 ∷ replicate 17 (Char 0x61)))

wide_paper : map length (rows 576 (replicate 49 (Char 0x61))) ≡ 48 ∷ 1 ∷ []
wide_paper = ap (map length) (rows_filled 576 (replicate 49 (Char 0x61)))

widest_paper : map length (rows 1024 (replicate 86 (Char 0x61))) ≡ 85 ∷ 1 ∷ []
widest_paper = ap (map length) (rows_filled 1024 (replicate 86 (Char 0x61)))

widest_paper_font_b : map length (rows 1024 (set sets.Font 1 ∷ replicate 114 (Char 0x61))) ≡ 113 ∷ 1 ∷ []
widest_paper_font_b = ap (map length) (rows_filled 1024 (set sets.Font 1 ∷ replicate 114 (Char 0x61)))

-- in a line of one dot each character has a row of its own
one_dot : printed 1 (Char 0x41 ∷ set sets.Font 1 ∷ Char 0x42 ∷ LineFeed ∷ [])
    ≡ Row left false (cell power_on 0x41 ∷ []) ∷ Feed 1 None ∷ Row left false (cell (record power_on { font = B }) 0x42 ∷ []) ∷ Feed 1 None ∷ []
one_dot = refl

-- a character that is wider than the line has a row of its own, and those around it stand side by side where they fit
too_wide_for_the_line : map length (rows 20 (set sets.Font 1 ∷ Char 0x41 ∷ Char 0x42 ∷ set sets.Size 0x70 ∷ Char 0x43 ∷ set sets.Size 0 ∷ Char 0x44 ∷ Char 0x45 ∷ [])) ≡ 2 ∷ 1 ∷ 2 ∷ []
too_wide_for_the_line = refl

-- a tab leads to column 8 of font A, or to those of ESC D in the style before it; where there is none, nothing happens
usual_tab : printed 512 (Char 0x41 ∷ Tab ∷ Char 0x42 ∷ LineFeed ∷ [])
    ≡ Row left false (cell power_on 0x41 ∷ record (cell power_on 0x42) { moved = Some 96 } ∷ []) ∷ Feed 1 None ∷ []
usual_tab = refl

own_tab : items_text (printed 512 (set sets.Size 0x10 ∷ TabStops (2 ∷ 5 ∷ []) ∷ set sets.Size 0 ∷ Tab ∷ Char 0x41 ∷ Tab ∷ Char 0x42 ∷ Tab ∷ Char 0x43 ∷ LineFeed ∷ []))
    ≡ codes "row left @48A@120BC" ++ 10 ∷ [] ++ codes "feed 1" ++ 10 ∷ []
unfolding digits
own_tab = refl

-- ESC $ counts from the beginning of the line, ESC \ from where the next would stand, also to the left; what follows the cell before it has no
-- place, and what would leave the printing area moves nothing
places : items_text (printed 100 (Position (position.Absolute, 50) ∷ Char 0x41 ∷ Char 0x42 ∷ Position (position.Relative, 6) ∷ Char 0x43
    ∷ Position (position.Relative, 65536 - 92) ∷ Char 0x44 ∷ Position (position.Absolute, 12) ∷ Char 0x45 ∷ Position (position.Absolute, 101) ∷ Char 0x46 ∷ LineFeed ∷ []))
    ≡ codes "row left @50AB@80C@0DEF" ++ 10 ∷ [] ++ codes "feed 1" ++ 10 ∷ []
unfolding digits
places = refl

-- where a character doesn't fit at its place, it begins the next line; alone it begins this one
place_at_the_end : items_text (printed 100 (Char 0x41 ∷ Position (position.Absolute, 95) ∷ Char 0x42 ∷ LineFeed ∷ Position (position.Absolute, 95) ∷ Char 0x43 ∷ LineFeed ∷ []))
    ≡ codes "row left A" ++ 10 ∷ [] ++ codes "feed 1" ++ 10 ∷ [] ++ codes "row left B" ++ 10 ∷ [] ++ codes "feed 1" ++ 10 ∷ [] ++ codes "row left C" ++ 10 ∷ [] ++ codes "feed 1" ++ 10 ∷ []
unfolding digits
place_at_the_end = refl

-- a margin and a width of the printing area count from the next line on, and each row has its margin
margins : items_text (printed 100 (Position (position.LeftMargin, 40) ∷ Position (position.AreaWidth, 24) ∷ Char 0x41 ∷ Position (position.LeftMargin, 0) ∷ Char 0x42 ∷ Char 0x43 ∷ LineFeed
    ∷ Position (position.LeftMargin, 0) ∷ set sets.Align 1 ∷ Char 0x44 ∷ LineFeed ∷ []))
    ≡ codes "row left @40AB" ++ 10 ∷ [] ++ codes "feed 1" ++ 10 ∷ [] ++ codes "row left @40C" ++ 10 ∷ [] ++ codes "feed 1" ++ 10 ∷ []
    ++ codes "row center width 24 D" ++ 10 ∷ [] ++ codes "feed 1" ++ 10 ∷ []
unfolding digits
margins = refl

-- a character that is turned is as wide as it is high otherwise
turned : map length (rows 100 (set sets.Turned 1 ∷ replicate 5 (Char 0x61))) ≡ 4 ∷ 1 ∷ []
turned = refl

turned_text : items_text (printed 100 (set sets.Turned 1 ∷ Char 0x41 ∷ LineFeed ∷ [])) ≡ codes "row left [A,1,1,0,0,0,0,0,0,0,0,1]A" ++ 10 ∷ [] ++ codes "feed 1" ++ 10 ∷ []
unfolding digits
turned_text = refl

-- Init changes no width
width_stays : map length (rows 24 (Init ∷ replicate 3 (Char 0x61))) ≡ 2 ∷ 1 ∷ []
width_stays = refl

-- The same as text.
five_commands_text : items_text (printed 512 (Init ∷ Char 0x48 ∷ Char 0x69 ∷ LineFeed ∷ Cut (0, None) ∷ []))
    ≡ codes "row left Hi" ++ 10 ∷ [] ++ codes "feed 1" ++ 10 ∷ [] ++ codes "cut full" ++ 10 ∷ []
unfolding digits
five_commands_text = refl

emphasis_text : items_text (printed 512 (set sets.Emphasis 1 ∷ Char 0x41 ∷ set sets.Emphasis 0 ∷ Char 0x42 ∷ LineFeed ∷ []))
    ≡ codes "row left [A,1,1,1,0,0]A[A,1,1,0,0,0]B" ++ 10 ∷ [] ++ codes "feed 1" ++ 10 ∷ []
unfolding digits
emphasis_text = refl

strike_text : items_text (printed 512 (set sets.DoubleStrike 1 ∷ Char 0x41 ∷ set sets.DoubleStrike 0 ∷ Char 0x42 ∷ set sets.Reverse 1 ∷ set sets.CharacterSet 17 ∷ Char 0x43 ∷ LineFeed ∷ []))
    ≡ codes "row left [A,1,1,0,0,0,1,0,0]A[A,1,1,0,0,0]B[A,1,1,0,0,0,0,1,17]C" ++ 10 ∷ [] ++ codes "feed 1" ++ 10 ∷ []
unfolding digits
strike_text = refl

upside_down_text : items_text (printed 512 (set sets.UpsideDown 1 ∷ set sets.LineSpacing 40 ∷ Char 0x41 ∷ LineFeed ∷ []))
    ≡ codes "row left upside A" ++ 10 ∷ [] ++ codes "feed 1 spacing 40" ++ 10 ∷ []
unfolding digits
upside_down_text = refl

mode_text : items_text (printed 512 (set sets.Mode 0xB9 ∷ Char 0x41 ∷ LineFeed ∷ []))
    ≡ codes "row left [B,2,2,1,1,0]A" ++ 10 ∷ [] ++ codes "feed 1" ++ 10 ∷ []
unfolding digits
mode_text = refl

cut_text : items_text (printed 512 (Char 0x5C ∷ Char 0xE9 ∷ Cut (0x41, Some 5) ∷ []))
    ≡ codes "row left " ++ 0x5C ∷ codes "5c" ++ 0x5C ∷ codes "e9" ++ 10 ∷ [] ++ codes "feed 1" ++ 10 ∷ [] ++ codes "cut full 5" ++ 10 ∷ []
unfolding digits encode_with
cut_text = refl

ean13_text : items_text (printed 512 (Bars (barcode form.A Ean13 (codes "400638133393")) ∷ []))
    ≡ codes "bars left ean13 162 3 none A 4006381333931" ++ 10 ∷ []
unfolding digits
ean13_text = refl

raster_text : items_text (printed 512 (set sets.Align 2 ∷ Raster (picture 50 1 1 (0xA5 ∷ [])) ∷ [])) ≡ codes "raster right tall 1 1 a5" ++ 10 ∷ []
unfolding digits encode_with
raster_text = refl
