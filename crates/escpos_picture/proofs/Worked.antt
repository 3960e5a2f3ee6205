-- Worked rows, computed by hand from the rules and then from the definitions alone.
use Rattle.std.proofs.Common.{◌≡◌, ℕ, ◌*◌, List, [], ◌∷◌, ◌++◌, refl, true, false}
use Rattle.std.specs.Prelude.{None, Some, codes, map}
use Rattle.std.specs.Fmt.{digits}
use Rattle.std.specs.Char.{encode_utf8}
use Rattle.escpos_command.specs.declared.bars.Symbology.TheVariants.{UpcA, Ean8, Code39}
use Rattle.escpos_command.specs.declared.parameter.choices.Alignment.{Alignment}
use Rattle.escpos_command.specs.declared.parameter.choices.Alignment.TheVariants.{Left, Center, Right}
use Rattle.escpos_paper.specs.declared.style.Placing.{Placing}
use Rattle.escpos_command.specs.declared.parameter.choices.FontFace.TheVariants.{A, B}
use Rattle.escpos_command.specs.declared.parameter.choices.HriPosition.TheVariants as position
use Rattle.escpos_command.specs.declared.parameter.choices.Scale.TheVariants as scale
use Rattle.escpos_paper.specs.declared.item.Item.{Item}
use Rattle.escpos_paper.specs.declared.item.Item.TheVariants.{Row, Feed, FeedUnits, Bars, Raster, Cut}
use Rattle.escpos_paper.specs.declared.cell.Cell.{Cell}
use Rattle.escpos_paper.specs.declared.style.Style.{Style}
use Rattle.escpos_paper.specs.declared.style.BarStyle.{BarStyle}
use Rattle.escpos_paper.specs.Cells.{cell}
use Rattle.escpos_paper.specs.Styles.{power_on}
use Rattle.escpos_barcode.specs.Tables.{set_a, set_b, right_digits, left_digits, parity_rows, parities, code39_data, code39_star, itf_rows, itf_digits, codabar_table, code128_rows, code128_table}
use Rattle.escpos_picture.specs.Numbers.{quarters}
use Rattle.escpos_text.specs.CharacterSets.{exchanged_bytes, character_sets, characters_in}
use Rattle.escpos_text.specs.CodeTables.{code_tables, characters_of}
use Rattle.escpos_text.specs.Reading.{reads, reads_high, reads_low}
use Rattle.escpos_picture.specs.Characters.{byte_text}
use Rattle.escpos_picture.specs.Places.{top, place_after_all, feed_depth}
use Rattle.escpos_picture.specs.Spans.{span, spans, byte_dots}
use Rattle.escpos_picture.specs.Steps.{begin, along, back, finish, square, off_path, covered_by, black_squares}
use Rattle.escpos_picture.specs.Rasters.{rows_of, raster_steps, rows_text}
use Rattle.escpos_picture.specs.Rows.{runs, text_place, text_class, characters_text, text_start, run_tag, underline_text, ground_text, run_marks, run_drawing, runs_drawing}
use Rattle.escpos_picture.specs.BarItems.{label_place, label_tag, label, label_above, label_below, bars_frame, bars_group, scannable, box_frame, box_text, box}
use Rattle.escpos_picture.specs.Groups.{cut_line, scale_text, raster_start, drawing, drawings, drawing_at}
use Rattle.escpos_picture.specs.Document.{style_sheet, root_tag, paper_tag, head, last_tag, picture_text}

-- A side of the whole line.
abbrev at_side : Alignment → Placing
at_side side = record { side = side; margin = 0; width = None }

-- ## Documents

-- An empty paper is the two margins: 64 dots high.
no_items : picture_text 512 [] [] ≡
    codes "<svg xmlns=\"http://www.w3.org/2000/svg\" version=\"1.1\" width=\"576\" height=\"64\" viewBox=\"0 0 576 64\" xml:space=\"preserve\">\n"
    ++ style_sheet 512 ++ codes "<rect class=\"paper\" width=\"576\" height=\"64\"/>\n" ++ codes "</svg>\n"
unfolding digits style_sheet root_tag paper_tag head drawings
no_items = refl

-- On lines of 384 dots the paper is 448 dots wide.
narrow_paper : picture_text 384 [] [] ≡
    codes "<svg xmlns=\"http://www.w3.org/2000/svg\" version=\"1.1\" width=\"448\" height=\"64\" viewBox=\"0 0 448 64\" xml:space=\"preserve\">\n"
    ++ style_sheet 384 ++ codes "<rect class=\"paper\" width=\"448\" height=\"64\"/>\n" ++ codes "</svg>\n"
unfolding digits style_sheet root_tag paper_tag head drawings
narrow_paper = refl

-- A line under it takes 40 dots more, and its base line is 26 dots under the paper.
last_line : picture_text 512 [] (codes "fault at byte 0") ≡
    codes "<svg xmlns=\"http://www.w3.org/2000/svg\" version=\"1.1\" width=\"576\" height=\"104\" viewBox=\"0 0 576 104\" xml:space=\"preserve\">\n"
    ++ style_sheet 512 ++ codes "<rect class=\"paper\" width=\"576\" height=\"64\"/>\n"
    ++ codes "<text class=\"last\" x=\"32\" y=\"90\">fault at byte 0</text>\n</svg>\n"
unfolding digits style_sheet root_tag paper_tag head drawings last_tag
last_line = refl

-- "Hi" in font A, a feed of one line, and a cut. The row takes 24 dots, the feed the 6 that are left of a line, the cut 24.
text : Style → List ℕ → List Cell
text style bytes = map (cell style) bytes

receipt : List Item
receipt = Row (at_side Left) false (text power_on (codes "Hi")) ∷ Feed 1 None ∷ Cut false None ∷ []

receipt_end : place_after_all (top 512) receipt ≡ record { line_dots = 512; down = 4 * 54; above = 0 }
unfolding receipt text
receipt_end = refl

receipt_drawn : drawings (top 512) receipt ≡
    codes "<g class=\"row\" transform=\"translate(32,50)\"><text x=\"0\" textLength=\"24\">Hi</text></g>\n<g class=\"feed\"/>\n"
    ++ codes "<g class=\"cut\" transform=\"translate(0,62)\"><circle cx=\"8\" cy=\"6\" r=\"4\"/><circle cx=\"8\" cy=\"18\" r=\"4\"/>"
    ++ codes "<path d=\"M11 9L28 18M11 15L28 6\"/><path class=\"dashes\" d=\"M32 12H576\"/></g>\n"
unfolding receipt text digits encode_utf8 runs text_place text_class text_start run_tag underline_text run_marks run_drawing runs_drawing drawing drawings reads reads_low reads_high exchanged_bytes characters_in character_sets characters_of code_tables
receipt_drawn = refl

receipt_height : picture_text 512 receipt [] ≡
    codes "<svg xmlns=\"http://www.w3.org/2000/svg\" version=\"1.1\" width=\"576\" height=\"118\" viewBox=\"0 0 576 118\" xml:space=\"preserve\">\n"
    ++ style_sheet 512 ++ codes "<rect class=\"paper\" width=\"576\" height=\"118\"/>\n" ++ drawings (top 512) receipt ++ codes "</svg>\n"
unfolding receipt text digits encode_utf8 style_sheet root_tag paper_tag head runs text_place text_class text_start run_tag underline_text run_marks run_drawing runs_drawing drawing drawings reads reads_low reads_high exchanged_bytes characters_in character_sets characters_of code_tables
receipt_height = refl

-- ## Rows, each as the first item of a paper

-- Font B: 9 by 17 dots, the base line 12.75 down.
font_b : drawing_at 512 0 (Row (at_side Left) false (text (record power_on { font = B }) (codes "Hi"))) ≡
    codes "<g class=\"row\" transform=\"translate(32,44.75)\"><text x=\"0\" class=\"B\" textLength=\"18\">Hi</text></g>\n"
unfolding text digits encode_utf8 runs text_place text_class text_start run_tag underline_text run_marks run_drawing runs_drawing reads reads_low reads_high exchanged_bytes characters_in character_sets characters_of code_tables
font_b = refl

-- Twice as wide and high, in the middle: 48 by 48 dots, (512 - 48) / 2 dots free on the left.
double : drawing_at 512 0 (Row (at_side Center) false (text (record power_on { width = 2; height = 2 }) (codes "Hi"))) ≡
    codes "<g class=\"row\" transform=\"translate(264,68)\"><text transform=\"matrix(2 0 0 2 0 0)\" textLength=\"24\">Hi</text></g>\n"
unfolding text digits encode_utf8 runs text_place text_class text_start run_tag underline_text run_marks run_drawing runs_drawing reads reads_low reads_high exchanged_bytes characters_in character_sets characters_of code_tables
double = refl

-- Bold at the right end, 512 - 24 dots free on the left.
bold : drawing_at 512 0 (Row (at_side Right) false (text (record power_on { bold = true }) (codes "Hi"))) ≡
    codes "<g class=\"row\" transform=\"translate(520,50)\"><text x=\"0\" class=\"bold\" textLength=\"24\">Hi</text></g>\n"
unfolding text digits encode_utf8 runs text_place text_class text_start run_tag underline_text run_marks run_drawing runs_drawing reads reads_low reads_high exchanged_bytes characters_in character_sets characters_of code_tables
bold = refl

-- The same at the right end of a line of 1,024 dots.
wide_paper : drawing_at 1024 0 (Row (at_side Right) false (text (record power_on { bold = true }) (codes "Hi"))) ≡
    codes "<g class=\"row\" transform=\"translate(1032,50)\"><text x=\"0\" class=\"bold\" textLength=\"24\">Hi</text></g>\n"
unfolding text digits encode_utf8 runs text_place text_class text_start run_tag underline_text run_marks run_drawing runs_drawing reads reads_low reads_high exchanged_bytes characters_in character_sets characters_of code_tables
wide_paper = refl

-- Double strike is bold, too, beside emphasis and alone; a character set changes nothing.
strike : drawing_at 512 0 (Row (at_side Left) false (text (record power_on { font = B; strike = true; character_set = 8 }) (codes "Hi"))) ≡
    codes "<g class=\"row\" transform=\"translate(32,44.75)\"><text x=\"0\" class=\"B bold\" textLength=\"18\">Hi</text></g>\n"
unfolding text digits encode_utf8 runs text_place text_class text_start run_tag underline_text run_marks run_drawing runs_drawing reads reads_low reads_high exchanged_bytes characters_in character_sets characters_of code_tables
strike = refl

-- White on black: the ground is as wide and high as the cells, across blanks, too; no underline.
reverse : drawing_at 512 0 (Row (at_side Left) false (text (record power_on { reverse = true; underline = 2; bold = true }) (codes "a b"))) ≡
    codes "<g class=\"row\" transform=\"translate(32,50)\"><path d=\"M0 -18h36v24h-36z\"/><text x=\"0\" class=\"bold white\" textLength=\"36\">a b</text></g>\n"
unfolding text digits encode_utf8 runs text_place text_class text_start run_tag ground_text run_marks run_drawing runs_drawing reads reads_low reads_high exchanged_bytes characters_in character_sets characters_of code_tables
reverse = refl

reverse_high : drawing_at 512 0 (Row (at_side Left) false (text power_on (codes "A") ++ text (record power_on { font = B; width = 2; height = 3; reverse = true }) (codes "b"))) ≡
    codes "<g class=\"row\" transform=\"translate(32,70.25)\"><text x=\"0\" textLength=\"12\">A</text>"
    ++ codes "<path d=\"M12 -38.25h18v51h-18z\"/><text transform=\"matrix(2 0 0 3 12 0)\" class=\"B white\" textLength=\"9\">b</text></g>\n"
unfolding text digits encode_utf8 runs text_place text_class text_start run_tag underline_text ground_text run_marks run_drawing runs_drawing reads reads_low reads_high exchanged_bytes characters_in character_sets characters_of code_tables
reverse_high = refl

-- A row upside down is turned with its line: what stands left stands right then, and its base line is a quarter of its height down.
upside_down : drawing_at 512 0 (Row (at_side Left) true (text power_on (codes "Hi"))) ≡
    codes "<g class=\"row\" transform=\"translate(544,38) rotate(180)\"><text x=\"0\" textLength=\"24\">Hi</text></g>\n"
unfolding text digits encode_utf8 runs text_place text_class text_start run_tag underline_text run_marks run_drawing runs_drawing reads reads_low reads_high exchanged_bytes characters_in character_sets characters_of code_tables
upside_down = refl

upside_down_right : drawing_at 512 120 (Row (at_side Right) true (text (record power_on { height = 2 }) (codes "Hi"))) ≡
    codes "<g class=\"row\" transform=\"translate(56,74) rotate(180)\"><text transform=\"matrix(1 0 0 2 0 0)\" textLength=\"24\">Hi</text></g>\n"
unfolding text digits encode_utf8 runs text_place text_class text_start run_tag underline_text run_marks run_drawing runs_drawing reads reads_low reads_high exchanged_bytes characters_in character_sets characters_of code_tables
upside_down_right = refl

-- Underlines go across blanks, and end where the cells do, a quarter of 24 and of 17 dots under the base line.
underline : drawing_at 512 0 (Row (at_side Left) false (text (record power_on { underline = 1 }) (codes "a b"))) ≡
    codes "<g class=\"row\" transform=\"translate(32,50)\"><text x=\"0\" textLength=\"36\">a b</text><path d=\"M0 5h36v1h-36z\"/></g>\n"
unfolding text digits encode_utf8 runs text_place text_class text_start run_tag underline_text run_marks run_drawing runs_drawing reads reads_low reads_high exchanged_bytes characters_in character_sets characters_of code_tables
underline = refl

thick_underline : drawing_at 512 0 (Row (at_side Left) false (text (record power_on { font = B; bold = true; underline = 2 }) (codes "a b"))) ≡
    codes "<g class=\"row\" transform=\"translate(32,44.75)\"><text x=\"0\" class=\"B bold\" textLength=\"27\">a b</text>"
    ++ codes "<path d=\"M0 2.25h27v2h-27z\"/></g>\n"
unfolding text digits encode_utf8 runs text_place text_class text_start run_tag underline_text run_marks run_drawing runs_drawing reads reads_low reads_high exchanged_bytes characters_in character_sets characters_of code_tables
thick_underline = refl

-- Two styles: the second text begins where the first ends, and both stand on the base line of the taller.
two_styles : drawing_at 512 0 (Row (at_side Left) false (text power_on (codes "A&") ++ text (record power_on { height = 2 }) (codes "b"))) ≡
    codes "<g class=\"row\" transform=\"translate(32,68)\"><text x=\"0\" textLength=\"24\">A&amp;</text>"
    ++ codes "<text transform=\"matrix(1 0 0 2 24 0)\" textLength=\"12\">b</text></g>\n"
unfolding text digits encode_utf8 runs text_place text_class text_start run_tag underline_text run_marks run_drawing runs_drawing reads reads_low reads_high exchanged_bytes characters_in character_sets characters_of code_tables
two_styles = refl

-- A second colour: what would be black has it.
second_color : drawing_at 512 0 (Row (at_side Left) false (text (record power_on { color = 1 }) (codes "A"))) ≡
    codes "<g class=\"row\" transform=\"translate(32,50)\"><g class=\"second\"><text x=\"0\" textLength=\"12\">A</text></g></g>\n"
unfolding text digits encode_utf8 runs text_place text_class text_start run_tag underline_text run_marks run_drawing runs_drawing reads reads_low reads_high exchanged_bytes characters_in character_sets characters_of code_tables
second_color = refl

-- ## Characters, in UTF-8

c_cedilla : byte_text 0 0 0x80 ≡ 0xC3 ∷ 0x87 ∷ []
unfolding encode_utf8 reads reads_low reads_high exchanged_bytes characters_in character_sets characters_of code_tables
c_cedilla = refl

euro : (byte_text 0 16 0x80 ≡ 0xE2 ∷ 0x82 ∷ 0xAC ∷ []) × (byte_text 0 19 0xD5 ≡ 0xE2 ∷ 0x82 ∷ 0xAC ∷ [])
unfolding encode_utf8 reads reads_low reads_high exchanged_bytes characters_in character_sets characters_of code_tables
euro = (refl, refl)

-- The pound sign of character set 3, and an umlaut of set 2.
exchanged : (byte_text 3 0 0x23 ≡ 0xC2 ∷ 0xA3 ∷ []) × (byte_text 2 0 0x5B ≡ 0xC3 ∷ 0x84 ∷ [])
unfolding encode_utf8 reads reads_low reads_high exchanged_bytes characters_in character_sets characters_of code_tables
exchanged = (refl, refl)

dotless_i : byte_text 0 2 0xD5 ≡ 0xC4 ∷ 0xB1 ∷ []
unfolding encode_utf8 reads reads_low reads_high exchanged_bytes characters_in character_sets characters_of code_tables
dotless_i = refl

-- What is no character: what a table leaves open, a table that isn't known, and control characters.
no_character : characters_text 0 16 (0x81 ∷ []) ++ characters_text 0 20 (0x7E ∷ 0x7F ∷ 0x80 ∷ 0xFF ∷ []) ++ characters_text 0 0 (0x1F ∷ 0x20 ∷ []) ≡
    0xEF ∷ 0xBF ∷ 0xBD ∷ [] ++ codes "~" ++ 0xEF ∷ 0xBF ∷ 0xBD ∷ 0xEF ∷ 0xBF ∷ 0xBD ∷ 0xEF ∷ 0xBF ∷ 0xBD ∷ [] ++ 0xEF ∷ 0xBF ∷ 0xBD ∷ codes " "
unfolding encode_utf8 reads reads_low reads_high exchanged_bytes characters_in character_sets characters_of code_tables
no_character = refl

markup : characters_text 0 0 (codes "<a b='&\">") ≡ codes "&lt;a b=&apos;&amp;&quot;&gt;"
unfolding encode_utf8 reads reads_low reads_high exchanged_bytes characters_in character_sets characters_of code_tables
markup = refl

-- ## Dots

-- 10110001
dots_of_byte : spans (byte_dots 0xB1) ≡ span true 1 ∷ span false 1 ∷ span true 2 ∷ span false 3 ∷ span true 1 ∷ []
dots_of_byte = refl

-- Each way back is as long as the row above it: 8 dots.
two_rows : rows_text 0 (rows_of 1 2 (0xB1 ∷ 0x0F ∷ [])) ≡ codes "<path d=\"M0 0.5h1m1 0h2m3 0h1m-8 1m4 0h4\"/>\n"
unfolding digits raster_steps rows_text
two_rows = refl

-- Nothing is drawn of a row with no black dot. The spans of a byte end where it does, but white bytes are passed over at once.
white_rows : rows_text 0 (rows_of 2 3 (0xFF ∷ 0x80 ∷ 0x00 ∷ 0x00 ∷ 0x03 ∷ 0xC0 ∷ [])) ≡ codes "<path d=\"M0 0.5h8h1m7 0m-16 1m-0 1m6 0h2h2m6 0\"/>\n"
unfolding digits raster_steps rows_text
white_rows = refl

white_bytes : rows_text 64 ((0x00 ∷ 0x00 ∷ 0x01 ∷ 0x00 ∷ 0x80 ∷ 0x00 ∷ []) ∷ []) ≡ codes "<path d=\"M0 64.5m16 0m7 0h1m8 0h1m7 0\"/>\n"
unfolding digits raster_steps rows_text
white_bytes = refl

-- The pen goes back from where the row's last black byte ends.
white_end : rows_text 0 (rows_of 2 2 (0x80 ∷ 0x00 ∷ 0x00 ∷ 0x01 ∷ [])) ≡ codes "<path d=\"M0 0.5h1m7 0m-8 1m8 0m7 0h1\"/>\n"
unfolding digits raster_steps rows_text
white_end = refl

-- A path ends with row 63, and the next begins with row 64.
next_band : rows_text 62 ((0xFF ∷ []) ∷ (0xFF ∷ []) ∷ (0xFF ∷ []) ∷ []) ≡ codes "h8m-8 1h8\"/>\n<path d=\"M0 64.5h8\"/>\n"
unfolding digits raster_steps rows_text
next_band = refl

-- What steps cover: two dots in row 3, and one below.
two_rows_covered : covered_by off_path (begin 3 ∷ along (span false 2) ∷ along (span true 2) ∷ back 4 ∷ along (span true 1) ∷ finish ∷ []) ≡
    Some (square 2 3 ∷ square 3 3 ∷ square 0 4 ∷ [])
two_rows_covered = refl

-- There is no answer for a way back that is too short or too long, for a path that isn't ended, and for steps on no path.
back_too_short : covered_by off_path (begin 0 ∷ along (span true 2) ∷ back 1 ∷ finish ∷ []) ≡ None
back_too_short = refl

back_too_long : covered_by off_path (begin 0 ∷ along (span true 2) ∷ back 3 ∷ finish ∷ []) ≡ None
back_too_long = refl

not_ended : covered_by off_path (begin 0 ∷ along (span true 2) ∷ []) ≡ None
not_ended = refl

on_no_path : covered_by off_path (begin 0 ∷ finish ∷ along (span true 2) ∷ []) ≡ None
on_no_path = refl

-- The black dots of 81, and of 01 under it.
black_dots : black_squares 0 ((0x81 ∷ []) ∷ (0x01 ∷ []) ∷ []) ≡ square 0 0 ∷ square 7 0 ∷ square 7 1 ∷ []
black_dots = refl

-- 16 dots in the middle, 30 dots down: 16 or 32 dots of paper.
normal : raster_start 512 120 (at_side Center) scale.Normal 2 ≡ codes "<g class=\"raster\" transform=\"translate(280,62)\"><g transform=\"scale(1,1)\">\n"
unfolding digits scale_text raster_start
normal = refl

wide : raster_start 512 120 (at_side Center) scale.Wide 2 ≡ codes "<g class=\"raster\" transform=\"translate(272,62)\"><g transform=\"scale(2,1)\">\n"
unfolding digits scale_text raster_start
wide = refl

tall : raster_start 512 120 (at_side Center) scale.Tall 2 ≡ codes "<g class=\"raster\" transform=\"translate(280,62)\"><g transform=\"scale(1,2)\">\n"
unfolding digits scale_text raster_start
tall = refl

wide_and_tall : raster_start 512 120 (at_side Center) scale.Both 2 ≡ codes "<g class=\"raster\" transform=\"translate(272,62)\"><g transform=\"scale(2,2)\">\n"
unfolding digits scale_text raster_start
wide_and_tall = refl

-- Wider than the line: nothing is free on the left.
beyond : raster_start 512 0 (at_side Right) scale.Wide 128 ≡ codes "<g class=\"raster\" transform=\"translate(32,32)\"><g transform=\"scale(2,1)\">\n"
unfolding digits scale_text raster_start
beyond = refl

-- Each of its rows takes one dot of paper, or two.
raster_depth : (place_after_all (top 512) (Raster (at_side Left) scale.Normal 1 3 (0 ∷ 0 ∷ 0 ∷ []) ∷ []) ≡ record { line_dots = 512; down = 4 * 3; above = 0 })
    × (place_after_all (top 512) (Raster (at_side Left) scale.Wide 1 3 (0 ∷ 0 ∷ 0 ∷ []) ∷ []) ≡ record { line_dots = 512; down = 4 * 3; above = 0 })
    × (place_after_all (top 512) (Raster (at_side Left) scale.Tall 1 3 (0 ∷ 0 ∷ 0 ∷ []) ∷ []) ≡ record { line_dots = 512; down = 4 * 6; above = 0 })
    × (place_after_all (top 512) (Raster (at_side Left) scale.Both 1 3 (0 ∷ 0 ∷ 0 ∷ []) ∷ []) ≡ record { line_dots = 512; down = 4 * 6; above = 0 })
raster_depth = (refl, refl, refl, refl)

-- ## Feeds and cuts

-- The first line of a feed is counted from the top of the row right above; with no lines it is none.
feeds : (feed_depth 120 24 0 ≡ 4 * 0) × (feed_depth 120 24 1 ≡ 4 * 6) × (feed_depth 120 24 3 ≡ 4 * 66) × (feed_depth 120 48 1 ≡ 4 * 0)
    × (feed_depth 120 48 2 ≡ 4 * 30) × (feed_depth 120 0 3 ≡ 4 * 90)
feeds = (refl, refl, refl, refl, refl, refl)

-- Only the row right above counts: two feeds of one line are 36 dots under the row's lower edge.
two_feeds : place_after_all (top 512) (Row (at_side Left) false (text power_on (codes "Hi")) ∷ Feed 1 None ∷ Feed 1 None ∷ []) ≡ record { line_dots = 512; down = 4 * 60; above = 0 }
unfolding text
two_feeds = refl

-- A spacing of 61 motion units is 30.5 dots: half a dot and a line more under a row of 30 dots; one of 0 adds nothing.
spaced_feeds : (place_after_all (top 512) (Row (at_side Left) false (text power_on (codes "Hi")) ∷ Feed 2 (Some 61) ∷ []) ≡ record { line_dots = 512; down = 4 * 61; above = 0 })
    × (place_after_all (top 512) (Row (at_side Left) false (text power_on (codes "Hi")) ∷ Feed 200 (Some 0) ∷ []) ≡ record { line_dots = 512; down = 4 * 24; above = 0 })
unfolding text
spaced_feeds = (refl, refl)

-- Three motion units are 1.5 dots.
units : (place_after_all (top 512) (FeedUnits 3 ∷ []) ≡ record { line_dots = 512; down = 6; above = 0 }) × (quarters 6 ≡ codes "1.5")
unfolding digits
units = (refl, refl)

-- A partial cut, 2 dots under where it begins.
cut_fed : drawing_at 512 0 (Cut true (Some 4)) ≡
    codes "<g class=\"cut\" transform=\"translate(0,34)\"><circle cx=\"8\" cy=\"6\" r=\"4\"/><circle cx=\"8\" cy=\"18\" r=\"4\"/>"
    ++ codes "<path d=\"M11 9L28 18M11 15L28 6\"/><path class=\"dashes\" d=\"M32 12H272M304 12H576\"/></g>\n"
unfolding digits
cut_fed = refl

-- The dashed line ends at the right edge of the paper, and its gap is in the middle.
narrow_cuts : (cut_line 384 true ≡ codes "M32 12H208M240 12H448") × (cut_line 384 false ≡ codes "M32 12H448")
unfolding digits
narrow_cuts = (refl, refl)

-- On paper that is narrower than the gap nothing stands before it.
narrowest_cut : cut_line 1 true ≡ codes "M32 12H32M48 12H65"
unfolding digits
narrowest_cut = refl

cut_fed_end : place_after_all (top 512) (Cut true (Some 4) ∷ []) ≡ record { line_dots = 512; down = 4 * 26; above = 0 }
cut_fed_end = refl

-- ## Barcodes

-- A bar of 2 dots, a space of 1 and a bar of 3, in the middle, with a line of font B above and below.
bars_style : BarStyle
bars_style = record { height = 100; module_width = 2; place = position.Both; hri_font = B }

bars : scannable 512 0 (at_side Center) bars_style (codes "7") (2 ∷ 1 ∷ 3 ∷ []) ≡
    codes "<g class=\"bars\" transform=\"translate(285,32)\">\n<text class=\"middle B\" x=\"3\" y=\"12.75\" textLength=\"9\">7</text>"
    ++ codes "<svg y=\"17\" width=\"6\" height=\"100\" viewBox=\"0 0 6 1\" preserveAspectRatio=\"none\">\n<path d=\"M0 0.5h2m1 0h3\"/>\n</svg>\n"
    ++ codes "<text class=\"middle B\" x=\"3\" y=\"129.75\" textLength=\"9\">7</text></g>\n"
unfolding bars_style digits encode_utf8 label_place label_tag label label_above label_below bars_frame bars_group reads reads_low reads_high exchanged_bytes characters_in character_sets characters_of code_tables
bars = refl

-- A line of text below alone: the bars begin at the top.
text_below : scannable 512 0 (at_side Left) (record bars_style { place = position.Below; hri_font = A }) (codes "7") (2 ∷ 1 ∷ 3 ∷ []) ≡
    codes "<g class=\"bars\" transform=\"translate(32,32)\">\n"
    ++ codes "<svg y=\"0\" width=\"6\" height=\"100\" viewBox=\"0 0 6 1\" preserveAspectRatio=\"none\">\n<path d=\"M0 0.5h2m1 0h3\"/>\n</svg>\n"
    ++ codes "<text class=\"middle\" x=\"3\" y=\"118\" textLength=\"12\">7</text></g>\n"
unfolding bars_style digits encode_utf8 label_place label_tag label label_above label_below bars_frame bars_group reads reads_low reads_high exchanged_bytes characters_in character_sets characters_of code_tables
text_below = refl

-- EAN-8 5512345 and its check digit 7, which is added: 67 modules of 3 dots.
ean8 : drawing_at 512 0 (Bars (at_side Center) Ean8 50 3 position.Below A (codes "5512345") (Some 7)) ≡
    codes "<g class=\"bars\" transform=\"translate(187,32)\">\n"
    ++ codes "<svg y=\"0\" width=\"201\" height=\"50\" viewBox=\"0 0 201 1\" preserveAspectRatio=\"none\">\n"
    ++ codes "<path d=\"M0 0.5h3m3 0h3m3 0h6m9 0h3m3 0h6m9 0h3m6 0h6m6 0h3m6 0h3m6 0h6m3 0h3"
    ++ codes "m3 0h3m3 0h3m12 0h3m3 0h3m3 0h9m6 0h3m6 0h9m3 0h3m9 0h3m6 0h3m3 0h3\"/>\n</svg>\n"
    ++ codes "<text class=\"middle\" x=\"100.5\" y=\"68\" textLength=\"96\">55123457</text></g>\n"
unfolding digits encode_utf8 label_place label_tag label label_above label_below bars_frame bars_group set_a set_b right_digits left_digits parity_rows parities code39_data code39_star itf_rows itf_digits codabar_table code128_rows code128_table reads reads_low reads_high exchanged_bytes characters_in character_sets characters_of code_tables
ean8 = refl

-- Its bars and the line of text take 50 and 24 dots; a line above as well takes as much again.
bars_depth : (place_after_all (top 512) (Bars (at_side Center) Ean8 50 3 position.Below A (codes "5512345") (Some 7) ∷ []) ≡ record { line_dots = 512; down = 4 * 74; above = 0 })
    × (place_after_all (top 512) (Bars (at_side Center) Ean8 50 3 position.Both A (codes "5512345") (Some 7) ∷ []) ≡ record { line_dots = 512; down = 4 * 98; above = 0 })
bars_depth = (refl, refl)

-- What no scanner reads: a box as wide as the line.
no_bars : box 512 0 bars_style (codes "<1>") ≡
    codes "<g class=\"bars\" transform=\"translate(32,32)\">\n<svg y=\"17\" width=\"512\" height=\"100\"><rect class=\"box\" width=\"512\" height=\"100\"/></svg>\n"
    ++ codes "<svg y=\"17\" width=\"512\" height=\"100\" viewBox=\"0 0 512 48\"><text class=\"middle\" x=\"256\" y=\"18\">not scannable</text>"
    ++ codes "<text class=\"middle\" x=\"256\" y=\"42\" textLength=\"36\" lengthAdjust=\"spacingAndGlyphs\">&lt;1&gt;</text></svg>\n</g>\n"
unfolding bars_style digits encode_utf8 bars_group box_frame box_text reads reads_low reads_high exchanged_bytes characters_in character_sets characters_of code_tables
no_bars = refl

-- CODE39 with 42 characters, each 13 modules or more, doesn't fit in the line.
too_long : drawing_at 512 0 (Bars (at_side Right) Code39 48 2 position.Nowhere A (codes "AAAAAAAAAABBBBBBBBBBCCCCCCCCCCDDDDDDDDDDEE") None) ≡
    codes "<g class=\"bars\" transform=\"translate(32,32)\">\n<svg y=\"0\" width=\"512\" height=\"48\"><rect class=\"box\" width=\"512\" height=\"48\"/></svg>\n"
    ++ codes "<svg y=\"0\" width=\"512\" height=\"48\" viewBox=\"0 0 512 48\"><text class=\"middle\" x=\"256\" y=\"18\">not scannable</text>"
    ++ codes "<text class=\"middle\" x=\"256\" y=\"42\" textLength=\"496\" lengthAdjust=\"spacingAndGlyphs\">AAAAAAAAAABBBBBBBBBBCCCCCCCCCCDDDDDDDDDDEE</text></svg>\n</g>\n"
unfolding digits encode_utf8 bars_group box_frame box_text set_a set_b right_digits left_digits parity_rows parities code39_data code39_star itf_rows itf_digits codabar_table code128_rows code128_table reads reads_low reads_high exchanged_bytes characters_in character_sets characters_of code_tables
too_long = refl

-- ## Parts together

-- Ten dots down the paper: twice as wide alone, underlined as wide as it is, and then a plain character 48 dots from the left.
wide_alone : drawing_at 512 40 (Row (at_side Left) false (text (record power_on { width = 2; underline = 1 }) (codes "ab") ++ text power_on (codes "c"))) ≡
    codes "<g class=\"row\" transform=\"translate(32,60)\"><text transform=\"matrix(2 0 0 1 0 0)\" textLength=\"24\">ab</text><path d=\"M0 5h48v1h-48z\"/>"
    ++ codes "<text x=\"48\" textLength=\"12\">c</text></g>\n"
unfolding text digits encode_utf8 runs text_place text_class text_start run_tag underline_text run_marks run_drawing runs_drawing reads reads_low reads_high exchanged_bytes characters_in character_sets characters_of code_tables
wide_alone = refl

-- Twice as high: the underline ends 12 dots under the base line, where the cell does.
tall_underline : drawing_at 512 0 (Row (at_side Left) false (text (record power_on { height = 2; underline = 2 }) (codes "a"))) ≡
    codes "<g class=\"row\" transform=\"translate(32,68)\"><text transform=\"matrix(1 0 0 2 0 0)\" textLength=\"12\">a</text><path d=\"M0 10h12v2h-12z\"/></g>\n"
unfolding text digits encode_utf8 runs text_place text_class text_start run_tag underline_text run_marks run_drawing runs_drawing reads reads_low reads_high exchanged_bytes characters_in character_sets characters_of code_tables
tall_underline = refl

-- A row has the code table of its style: D5 in table 19 is the euro sign.
table_19 : drawing_at 512 0 (Row (at_side Left) false (text (record power_on { table = 19 }) (0xD5 ∷ []))) ≡
    codes "<g class=\"row\" transform=\"translate(32,50)\"><text x=\"0\" textLength=\"12\">" ++ 0xE2 ∷ 0x82 ∷ 0xAC ∷ codes "</text></g>\n"
unfolding text digits encode_utf8 runs text_place text_class text_start run_tag underline_text run_marks run_drawing runs_drawing reads reads_low reads_high exchanged_bytes characters_in character_sets characters_of code_tables
table_19 = refl

-- A whole raster, 30 dots down.
whole_raster : drawing_at 512 120 (Raster (at_side Left) scale.Wide 1 2 (0xB1 ∷ 0x0F ∷ [])) ≡
    codes "<g class=\"raster\" transform=\"translate(32,62)\"><g transform=\"scale(2,1)\">\n<path d=\"M0 0.5h1m1 0h2m3 0h1m-8 1m4 0h4\"/>\n</g></g>\n"
unfolding digits raster_steps rows_text scale_text raster_start
whole_raster = refl

-- A barcode ten dots down.
bars_down : bars_group 512 40 (at_side Left) 6 ≡ codes "<g class=\"bars\" transform=\"translate(32,42)\">\n"
unfolding digits bars_group
bars_down = refl

-- A line of text above alone: the bars begin under it, and nothing stands below.
text_above : scannable 512 0 (at_side Left) (record bars_style { place = position.Above; hri_font = A }) (codes "7") (2 ∷ 1 ∷ 3 ∷ []) ≡
    codes "<g class=\"bars\" transform=\"translate(32,32)\">\n<text class=\"middle\" x=\"3\" y=\"18\" textLength=\"12\">7</text>"
    ++ codes "<svg y=\"24\" width=\"6\" height=\"100\" viewBox=\"0 0 6 1\" preserveAspectRatio=\"none\">\n<path d=\"M0 0.5h2m1 0h3\"/>\n</svg>\n</g>\n"
unfolding bars_style digits encode_utf8 label_place label_tag label label_above label_below bars_frame bars_group reads reads_low reads_high exchanged_bytes characters_in character_sets characters_of code_tables
text_above = refl

-- No text.
no_text : scannable 512 0 (at_side Left) (record bars_style { place = position.Nowhere }) (codes "7") (2 ∷ 1 ∷ 3 ∷ []) ≡
    codes "<g class=\"bars\" transform=\"translate(32,32)\">\n"
    ++ codes "<svg y=\"0\" width=\"6\" height=\"100\" viewBox=\"0 0 6 1\" preserveAspectRatio=\"none\">\n<path d=\"M0 0.5h2m1 0h3\"/>\n</svg>\n</g>\n"
unfolding bars_style digits encode_utf8 label_place label_tag label label_above label_below bars_frame bars_group reads reads_low reads_high exchanged_bytes characters_in character_sets characters_of code_tables
no_text = refl

-- A box shows the check digit that is added: UPC-A takes 95 modules of 6 dots, which don't fit.
box_added : drawing_at 512 0 (Bars (at_side Left) UpcA 48 6 position.Nowhere A (codes "03600029145") (Some 2)) ≡
    codes "<g class=\"bars\" transform=\"translate(32,32)\">\n<svg y=\"0\" width=\"512\" height=\"48\"><rect class=\"box\" width=\"512\" height=\"48\"/></svg>\n"
    ++ codes "<svg y=\"0\" width=\"512\" height=\"48\" viewBox=\"0 0 512 48\"><text class=\"middle\" x=\"256\" y=\"18\">not scannable</text>"
    ++ codes "<text class=\"middle\" x=\"256\" y=\"42\" textLength=\"144\" lengthAdjust=\"spacingAndGlyphs\">036000291452</text></svg>\n</g>\n"
unfolding digits encode_utf8 bars_group box_frame box_text set_a set_b right_digits left_digits parity_rows parities code39_data code39_star itf_rows itf_digits codabar_table code128_rows code128_table reads reads_low reads_high exchanged_bytes characters_in character_sets characters_of code_tables
box_added = refl

-- ## Places

-- A margin of 100 dots moves a row, and a raster in the middle of 200 dots from there on.
with_margin : drawing_at 512 0 (Row (record { side = Left; margin = 100; width = None }) false (text power_on (codes "Hi"))) ≡
    codes "<g class=\"row\" transform=\"translate(132,50)\"><text x=\"0\" textLength=\"24\">Hi</text></g>\n"
unfolding text digits encode_utf8 runs text_place text_class text_start run_tag underline_text run_marks run_drawing runs_drawing reads reads_low reads_high exchanged_bytes characters_in character_sets characters_of code_tables
with_margin = refl

in_area : raster_start 512 0 (record { side = Center; margin = 100; width = Some 200 }) scale.Normal 2 ≡ codes "<g class=\"raster\" transform=\"translate(224,32)\"><g transform=\"scale(1,1)\">\n"
unfolding digits raster_start scale_text
in_area = refl

-- A cell with a place of its own begins a run there; the row is as wide as it reaches, and its side counts for that.
placed : drawing_at 512 0 (Row (at_side Right) false (text power_on (codes "ab") ++ record (cell power_on 0x63) { moved = Some 100 } ∷ [])) ≡
    codes "<g class=\"row\" transform=\"translate(432,50)\"><text x=\"0\" textLength=\"24\">ab</text><text x=\"100\" textLength=\"12\">c</text></g>\n"
unfolding text digits encode_utf8 runs text_place text_class text_start run_tag underline_text run_marks run_drawing runs_drawing reads reads_low reads_high exchanged_bytes characters_in character_sets characters_of code_tables
placed = refl

-- Characters that are turned: each a text of its own, without an underline. In a row alone they are 12 dots high.
turned : drawing_at 512 0 (Row (at_side Left) false (text (record power_on { turned = true; underline = 1 }) (codes "ab"))) ≡
    codes "<g class=\"row\" transform=\"translate(32,41)\"><text transform=\"matrix(0 1 -1 0 6 -9)\" textLength=\"12\">a</text>"
    ++ codes "<text transform=\"matrix(0 1 -1 0 30 -9)\" textLength=\"12\">b</text></g>\n"
unfolding text digits encode_utf8 runs text_place text_class text_start run_tag underline_text run_marks run_drawing runs_drawing reads reads_low reads_high exchanged_bytes characters_in character_sets characters_of code_tables
turned = refl
