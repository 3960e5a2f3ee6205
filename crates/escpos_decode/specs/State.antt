-- Where in the command table a decoder stands between two bytes. A state stands for bytes, those that lead to it, and for
-- the part of the tree of the command table that is below it. Only private clauses, invariants and proofs use these
-- definitions.
use Rattle.std.specs.Prelude.{ℕ, ◌≡◌, ◌+◌, ◌-◌, ◌/◌, ◌%◌, ◌&&◌, nat_le, nat_lt, not, Bool, true, false, IsTrue, None, Some, List, [], ◌∷◌, ◌++◌, take, drop}
use Rattle.std.specs.List.{list_any}
use Rattle.escpos_command.specs.declared.bytes.TheConstants.{DLE, ESC, GS}
use Rattle.escpos_command.specs.declared.command.Command.{Command}
use Rattle.escpos_command.specs.declared.command.Command.TheVariants as kind
use Rattle.escpos_command.specs.declared.bars.Form.TheVariants.{A, B}
use Rattle.escpos_command.specs.declared.bars.Symbology.TheVariants.{UpcE, Codabar}
use Rattle.escpos_command.specs.Parameters.{is_byte, is_one_of_two, is_one_of_four, is_feed_cut_mode, is_mark_byte, is_qr_model}
use Rattle.escpos_command.specs.Barcodes.{barcode, barcode_mode, is_codabar_end}
use Rattle.escpos_command.specs.declared.graphics.GraphicsForm.{GraphicsForm}
use Rattle.escpos_command.specs.declared.graphics.GraphicsForm.TheVariants.{Short, Long}
use Rattle.escpos_command.specs.Graphics.{stored_picture, counted_before, length_bytes, graphics_letters, is_graphics_length, is_long_length}
use Rattle.escpos_command.specs.Positions.{position_prefix, word_bytes}
use Rattle.escpos_command.specs.Rasters.{picture, is_width}
use Rattle.escpos_command.specs.Prefixes.{part_from}
use Rattle.escpos_command.specs.SettingTable.{table, is_nothing, has_first, has_prefix, takes_third, row_prefix, row_for}
use Rattle.escpos_command.specs.Tree.{Tree, walk, below, dead, leaf, node, passing, these, one, counted, branch, none, forms, grammar, setting_tree, position, position_high, tab_stops, pulse, cut, barcodes, raster, after_scale, after_width, after_low, plain_content, upce_content, codabar_content, content_of, dots_tree, form_b, qr, qr_high, qr_code, qr_function, qr_data, graphics, graphics_high, long_graphics, long_second, long_third, graphics_mode, graphics_function, graphics_tone, graphics_across, graphics_down, graphics_color, graphics_width, graphics_width_high, graphics_height, graphics_height_high, graphics_dots}
use Rattle.escpos_decode.specs.OneParameter.{parameter_prefix, parameter_allows, parameter_command}
use Rattle.escpos_decode.specs.Push.{ahead_of, begins_content}
use Rattle.escpos_decode.specs.declared.decoder.Ahead.{Ahead}
use Rattle.escpos_decode.specs.declared.decoder.Ahead.TheVariants as ahead
use Rattle.escpos_decode.specs.declared.state.State.{State}
use Rattle.escpos_decode.specs.declared.state.State.TheVariants as state
use Rattle.escpos_decode.specs.declared.state.Ending.{Ending}
use Rattle.escpos_decode.specs.declared.state.Ending.TheVariants as ending
use Rattle.escpos_decode.specs.declared.state.Next.{Next}
use Rattle.escpos_decode.specs.declared.state.Next.TheVariants as next

-- ## States

-- The bytes of a mark before its id: GS ( H, the length 6 in two bytes, function 48 and m 48.
abbrev pub mark_prefix : List ℕ
mark_prefix = GS ∷ 0x28 ∷ 0x48 ∷ 0x06 ∷ 0x00 ∷ 0x30 ∷ 0x30 ∷ []

-- GS ( k.
abbrev pub qr_prefix : List ℕ
qr_prefix = GS ∷ 0x28 ∷ 0x6B ∷ []

-- Function 112 of graphics whose length counts so many bytes of dots, and these bytes after it; and the same with all that stands before
-- the height.
abbrev pub graphics_prefix : GraphicsForm → ℕ → List ℕ → List ℕ
graphics_prefix form count bs = graphics_letters form ++ length_bytes form (count + counted_before) ++ 0x30 ∷ 0x70 ∷ bs

abbrev pub size_prefix : GraphicsForm → ℕ → ℕ → ℕ → ℕ → List ℕ → List ℕ
size_prefix form count across down width bs = graphics_prefix form count (0x30 ∷ across ∷ down ∷ 0x31 ∷ word_bytes width ++ bs)

-- The bytes that lead to a state, without content and dots.
abbrev pub prefix_of : State → List ℕ
prefix_of state.Start = []
prefix_of state.Dle = DLE ∷ []
prefix_of state.Esc = ESC ∷ []
prefix_of state.Gs = GS ∷ []
prefix_of (state.First first) = first ∷ []
prefix_of (state.Letters first second) = first ∷ second ∷ []
prefix_of (state.Setting which) = row_prefix (row_for table which)
prefix_of (state.Parameter letter) = parameter_prefix letter
prefix_of (state.PositionLow which) = position_prefix which
prefix_of (state.PositionHigh which low) = position_prefix which ++ low ∷ []
prefix_of (state.TabStops most before) = ESC ∷ 0x44 ∷ []
prefix_of state.PulsePin = ESC ∷ 0x70 ∷ []
prefix_of (state.PulseOn pin) = ESC ∷ 0x70 ∷ pin ∷ []
prefix_of (state.PulseOff pin on) = ESC ∷ 0x70 ∷ pin ∷ on ∷ []
prefix_of state.CutMode = GS ∷ 0x56 ∷ []
prefix_of (state.CutFeed mode) = GS ∷ 0x56 ∷ mode ∷ []
prefix_of state.Bracket = GS ∷ 0x28 ∷ []
prefix_of state.MarkLengthLow = take 3 mark_prefix
prefix_of state.MarkLengthHigh = take 4 mark_prefix
prefix_of state.MarkFunction = take 5 mark_prefix
prefix_of state.MarkMode = take 6 mark_prefix
prefix_of state.MarkFirst = mark_prefix
prefix_of (state.MarkSecond first) = mark_prefix ++ first ∷ []
prefix_of (state.MarkThird first second) = mark_prefix ++ first ∷ second ∷ []
prefix_of (state.MarkFourth first second third) = mark_prefix ++ first ∷ second ∷ third ∷ []
prefix_of state.BarsMode = GS ∷ 0x6B ∷ []
prefix_of (state.PlainContent symbology most) = GS ∷ 0x6B ∷ barcode_mode A symbology ∷ []
prefix_of state.UpceFirst = GS ∷ 0x6B ∷ barcode_mode A UpcE ∷ []
prefix_of state.CodabarFirst = GS ∷ 0x6B ∷ barcode_mode A Codabar ∷ []
prefix_of (state.CodabarContent most) = GS ∷ 0x6B ∷ barcode_mode A Codabar ∷ []
prefix_of state.CodabarEnd = GS ∷ 0x6B ∷ barcode_mode A Codabar ∷ []
prefix_of (state.ContentLength symbology) = GS ∷ 0x6B ∷ barcode_mode B symbology ∷ []
prefix_of (state.Content symbology length wanted) = GS ∷ 0x6B ∷ barcode_mode B symbology ∷ length ∷ []
prefix_of state.RasterFunction = GS ∷ 0x76 ∷ []
prefix_of state.RasterScale = GS ∷ 0x76 ∷ 0x30 ∷ []
prefix_of (state.RasterWidth scale) = GS ∷ 0x76 ∷ 0x30 ∷ scale ∷ []
prefix_of (state.RasterWidthHigh scale width) = GS ∷ 0x76 ∷ 0x30 ∷ scale ∷ width ∷ []
prefix_of (state.RasterHeight scale width) = GS ∷ 0x76 ∷ 0x30 ∷ scale ∷ width ∷ 0 ∷ []
prefix_of (state.RasterHeightHigh scale width low) = GS ∷ 0x76 ∷ 0x30 ∷ scale ∷ width ∷ 0 ∷ low ∷ []
prefix_of (state.Dots scale width height wanted) = GS ∷ 0x76 ∷ 0x30 ∷ scale ∷ width ∷ 0 ∷ height % 256 ∷ height / 256 ∷ []
prefix_of state.QrLengthLow = qr_prefix
prefix_of (state.QrLengthHigh low) = qr_prefix ++ low ∷ []
prefix_of (state.QrCode length) = qr_prefix ++ length % 256 ∷ length / 256 ∷ []
prefix_of (state.QrFunction length) = qr_prefix ++ length % 256 ∷ length / 256 ∷ 0x31 ∷ []
prefix_of state.QrModelNumber = qr_prefix ++ 0x04 ∷ 0x00 ∷ 0x31 ∷ 0x41 ∷ []
prefix_of (state.QrModelEnd model) = qr_prefix ++ 0x04 ∷ 0x00 ∷ 0x31 ∷ 0x41 ∷ model ∷ []
prefix_of (state.QrStoreMode length) = qr_prefix ++ length % 256 ∷ length / 256 ∷ 0x31 ∷ 0x50 ∷ []
prefix_of (state.QrData length wanted) = qr_prefix ++ length % 256 ∷ length / 256 ∷ 0x31 ∷ 0x50 ∷ 0x30 ∷ []
prefix_of state.QrPrintMode = qr_prefix ++ 0x03 ∷ 0x00 ∷ 0x31 ∷ 0x51 ∷ []
prefix_of state.GraphicsLengthLow = graphics_letters Short
prefix_of (state.GraphicsLengthHigh low) = graphics_letters Short ++ low ∷ []
prefix_of state.LongLetter = GS ∷ 0x38 ∷ []
prefix_of state.LongLengthFirst = graphics_letters Long
prefix_of (state.LongLengthSecond first) = graphics_letters Long ++ first ∷ []
prefix_of (state.LongLengthThird first second) = graphics_letters Long ++ first ∷ second ∷ []
prefix_of (state.LongLengthFourth length) = graphics_letters Long ++ take 3 (length_bytes Long length)
prefix_of (state.GraphicsMode form length) = graphics_letters form ++ length_bytes form length
prefix_of (state.GraphicsFunction form length) = graphics_letters form ++ length_bytes form length ++ 0x30 ∷ []
prefix_of (state.GraphicsTone form count) = graphics_prefix form count []
prefix_of (state.GraphicsAcross form count) = graphics_prefix form count (0x30 ∷ [])
prefix_of (state.GraphicsDown form count across) = graphics_prefix form count (0x30 ∷ across ∷ [])
prefix_of (state.GraphicsColor form count across down) = graphics_prefix form count (0x30 ∷ across ∷ down ∷ [])
prefix_of (state.GraphicsWidth form count across down) = graphics_prefix form count (0x30 ∷ across ∷ down ∷ 0x31 ∷ [])
prefix_of (state.GraphicsWidthHigh form count across down low) = graphics_prefix form count (0x30 ∷ across ∷ down ∷ 0x31 ∷ low ∷ [])
prefix_of (state.GraphicsHeight form count across down width) = size_prefix form count across down width []
prefix_of (state.GraphicsHeightHigh form count across down width low) = size_prefix form count across down width (low ∷ [])
prefix_of (state.GraphicsDots head count wanted) = size_prefix head.form count head.across head.down head.width (word_bytes head.height)

-- The part of the tree below a state, where this content, or these dots, were read.
abbrev pub tree_of : State → List ℕ → Tree
tree_of state.Start read = grammar
tree_of state.Dle read = walk grammar (DLE ∷ [])
tree_of state.Esc read = walk grammar (ESC ∷ [])
tree_of state.Gs read = walk grammar (GS ∷ [])
tree_of (state.First first) read = walk grammar (first ∷ [])
tree_of (state.Letters first second) read = walk grammar (first ∷ second ∷ [])
tree_of (state.Setting which) read = setting_tree (row_for table which)
tree_of (state.Parameter letter) read = one (parameter_allows letter) (parameter_command letter)
tree_of (state.PositionLow which) read = position which
tree_of (state.PositionHigh which low) read = position_high which low
tree_of (state.TabStops most before) read = tab_stops most before read
tree_of state.PulsePin read = pulse
tree_of (state.PulseOn pin) read = passing is_byte (λ on. one is_byte (λ off. kind.Pulse (pin, on, off)))
tree_of (state.PulseOff pin on) read = one is_byte (λ off. kind.Pulse (pin, on, off))
tree_of state.CutMode read = node cut
tree_of (state.CutFeed mode) read = one is_byte (λ n. kind.Cut (mode, Some n))
tree_of state.Bracket read = walk grammar (GS ∷ 0x28 ∷ [])
tree_of state.MarkLengthLow read = these (drop 3 mark_prefix) (counted 4 (λ _. is_mark_byte) kind.Mark [])
tree_of state.MarkLengthHigh read = these (drop 4 mark_prefix) (counted 4 (λ _. is_mark_byte) kind.Mark [])
tree_of state.MarkFunction read = these (drop 5 mark_prefix) (counted 4 (λ _. is_mark_byte) kind.Mark [])
tree_of state.MarkMode read = these (drop 6 mark_prefix) (counted 4 (λ _. is_mark_byte) kind.Mark [])
tree_of state.MarkFirst read = counted 4 (λ _. is_mark_byte) kind.Mark []
tree_of (state.MarkSecond first) read = counted 3 (λ _. is_mark_byte) kind.Mark (first ∷ [])
tree_of (state.MarkThird first second) read = counted 2 (λ _. is_mark_byte) kind.Mark (first ∷ second ∷ [])
tree_of (state.MarkFourth first second third) read = counted 1 (λ _. is_mark_byte) kind.Mark (first ∷ second ∷ third ∷ [])
tree_of state.BarsMode read = node (branch barcodes none)
tree_of (state.PlainContent symbology most) read = plain_content symbology most read
tree_of state.UpceFirst read = upce_content
tree_of state.CodabarFirst read = passing is_codabar_end (λ first. codabar_content 253 (first ∷ []))
tree_of (state.CodabarContent most) read = codabar_content most read
tree_of state.CodabarEnd read = these (0x00 ∷ []) (leaf (kind.Bars (barcode A Codabar read)))
tree_of (state.ContentLength symbology) read = form_b symbology
tree_of (state.Content symbology length wanted) read = content_of symbology length wanted read
tree_of state.RasterFunction read = raster
tree_of state.RasterScale read = passing is_one_of_four after_scale
tree_of (state.RasterWidth scale) read = after_scale scale
tree_of (state.RasterWidthHigh scale width) read = these (0x00 ∷ []) (after_width scale width)
tree_of (state.RasterHeight scale width) read = after_width scale width
tree_of (state.RasterHeightHigh scale width low) read = after_low scale width low
tree_of (state.Dots scale width height wanted) read = dots_tree scale width height wanted read
tree_of state.QrLengthLow read = qr
tree_of (state.QrLengthHigh low) read = qr_high low
tree_of (state.QrCode length) read = qr_code length
tree_of (state.QrFunction length) read = qr_function length
tree_of state.QrModelNumber read = passing is_qr_model (λ model. these (0x00 ∷ []) (leaf (kind.QrModel model)))
tree_of (state.QrModelEnd model) read = these (0x00 ∷ []) (leaf (kind.QrModel model))
tree_of (state.QrStoreMode length) read = these (0x30 ∷ []) (qr_data (length - 3) [])
tree_of (state.QrData length wanted) read = qr_data wanted read
tree_of state.QrPrintMode read = these (0x30 ∷ []) (leaf kind.QrPrint)
tree_of state.GraphicsLengthLow read = graphics
tree_of (state.GraphicsLengthHigh low) read = graphics_high low
tree_of state.LongLetter read = long_graphics
tree_of state.LongLengthFirst read = passing is_byte long_second
tree_of (state.LongLengthSecond first) read = long_second first
tree_of (state.LongLengthThird first second) read = long_third first second
tree_of (state.LongLengthFourth length) read = these (0x00 ∷ []) (graphics_mode Long length)
tree_of (state.GraphicsMode form length) read = graphics_mode form length
tree_of (state.GraphicsFunction form length) read = graphics_function form length
tree_of (state.GraphicsTone form count) read = graphics_tone form count
tree_of (state.GraphicsAcross form count) read = graphics_across form count
tree_of (state.GraphicsDown form count across) read = graphics_down form count across
tree_of (state.GraphicsColor form count across down) read = graphics_color form count across down
tree_of (state.GraphicsWidth form count across down) read = graphics_width form count across down
tree_of (state.GraphicsWidthHigh form count across down low) read = graphics_width_high form count across down low
tree_of (state.GraphicsHeight form count across down width) read = graphics_height form count across down width
tree_of (state.GraphicsHeightHigh form count across down width low) read = graphics_height_high form count across down width low
tree_of (state.GraphicsDots head count wanted) read = graphics_dots head wanted read

-- ## Steps

-- The tree below the byte b of a tree.
abbrev pub step : Tree → ℕ → Tree
step t b = below t b

-- The command of a content, or of dots, that ends here.
abbrev pub command_of : Ending → List ℕ → Command
command_of (ending.Bars form symbology) content = kind.Bars (barcode form symbology content)
command_of (ending.Raster scale width height) dots = kind.Raster (picture scale width height dots)
command_of ending.QrStore bytes = kind.QrStore bytes
command_of ending.TabStops columns = kind.TabStops columns
command_of (ending.Graphics head) dots = kind.GraphicsStore (stored_picture head dots)

-- The state has content or dots after the bytes that lead to it.
abbrev pub has_content : State → Bool
has_content (state.TabStops most before) = true
has_content (state.PlainContent symbology most) = true
has_content (state.CodabarContent most) = true
has_content state.CodabarEnd = true
has_content (state.Content symbology length wanted) = true
has_content (state.Dots scale width height wanted) = true
has_content (state.QrData length wanted) = true
has_content (state.GraphicsDots head count wanted) = true
has_content _ = false

-- What a state holds is in range.
abbrev pub holds : State → Bool
holds (state.First first) = list_any (has_first first) table && part_from (first ∷ []) forms
holds (state.Letters first second) = list_any (takes_third first second) table && not (list_any (has_prefix first second None) table) && part_from (first ∷ second ∷ []) forms
holds (state.Setting which) = not (is_nothing (row_for table which).values)
holds (state.PulseOn pin) = is_one_of_two pin
holds (state.PulseOff pin on) = is_one_of_two pin
holds (state.CutFeed mode) = is_feed_cut_mode mode
holds (state.MarkSecond first) = is_mark_byte first
holds (state.MarkThird first second) = is_mark_byte first && is_mark_byte second
holds (state.MarkFourth first second third) = is_mark_byte first && is_mark_byte second && is_mark_byte third
holds (state.Content symbology length wanted) = nat_lt 0 wanted
holds (state.RasterWidthHigh scale width) = is_width width
holds (state.RasterHeight scale width) = is_width width
holds (state.RasterHeightHigh scale width low) = is_width width
holds (state.Dots scale width height wanted) = nat_lt 0 wanted
holds (state.QrModelEnd model) = is_qr_model model
holds (state.QrStoreMode length) = nat_le 4 length
holds (state.QrData length wanted) = nat_lt 0 wanted
holds (state.LongLengthFourth length) = is_long_length length
holds (state.GraphicsMode form length) = is_graphics_length length
holds (state.GraphicsFunction form length) = is_graphics_length length
holds (state.GraphicsTone form count) = nat_lt 0 count
holds (state.GraphicsAcross form count) = nat_lt 0 count
holds (state.GraphicsDown form count across) = nat_lt 0 count
holds (state.GraphicsColor form count across down) = nat_lt 0 count
holds (state.GraphicsWidth form count across down) = nat_lt 0 count
holds (state.GraphicsWidthHigh form count across down low) = nat_lt 0 count
holds (state.GraphicsHeight form count across down width) = nat_lt 0 count
holds (state.GraphicsHeightHigh form count across down width low) = nat_lt 0 count
holds (state.GraphicsDots head count wanted) = nat_lt 0 wanted
holds _ = true

-- How many bytes of content, or of dots, are still to come at a state, where this is known.
abbrev pub wanted_at : State → ℕ
wanted_at (state.Content symbology length wanted) = wanted
wanted_at (state.Dots scale width height wanted) = wanted
wanted_at (state.QrData length wanted) = wanted
wanted_at (state.GraphicsDots head count wanted) = wanted
wanted_at _ = 0

-- A decoder may stand at this state with this content read: the bytes lead there, and there is no content where the state
-- has none.
pub record IsAt (p : State) (read : List ℕ) : Type 0 where
  pub leads : walk grammar (prefix_of p ++ read) ≡ tree_of p read
  pub held : IsTrue (holds p)
  pub empty : has_content p ≡ false → read ≡ []

-- The byte b leads from state p, where this content was read, to state q, where none is.
pub record Moves (p : State) (read : List ℕ) (b : ℕ) (q : State) : Type 0 where
  pub below : step (tree_of p read) b ≡ tree_of q []
  pub grown : prefix_of q ≡ prefix_of p ++ b ∷ []
  pub held : IsTrue (holds q)
  pub from : has_content p ≡ false

-- The byte b is one more of the content, and leads from state p to state q.
pub record Grows (p : State) (read : List ℕ) (b : ℕ) (q : State) : Type 0 where
  pub below : step (tree_of p read) b ≡ tree_of q (read ++ b ∷ [])
  pub same : prefix_of q ≡ prefix_of p
  pub held : IsTrue (holds q)
  pub has : has_content q ≡ true

-- What the byte b makes of state p, where this content was read.
abbrev pub NextIs : Next → State → List ℕ → ℕ → Type 0
NextIs next.Refused p read b = step (tree_of p read) b ≡ dead
NextIs (next.To q) p read b = Moves p read b q × (wanted_at q ≡ 0)
NextIs (next.Room q count) p read b = Moves p read b q × (count ≡ wanted_at q) × IsTrue (begins_content (prefix_of p))
NextIs (next.Grow q) p read b = Grows p read b q × (wanted_at q ≡ 0) × IsTrue (begins_content (prefix_of p))
NextIs (next.Keep q) p read b = Grows p read b q × (wanted_at p ≡ wanted_at q + 1)
NextIs (next.Done c) p read b = (step (tree_of p read) b ≡ leaf c) × (has_content p ≡ false)
NextIs (next.Last e) p read b = (step (tree_of p read) b ≡ leaf (command_of e (read ++ b ∷ []))) × (wanted_at p ≡ 1)
NextIs (next.Closes e) p read b = step (tree_of p read) b ≡ leaf (command_of e read)

-- What a step completes.
abbrev pub completed : Next → Ahead
completed (next.Done c) = ahead_of c
completed (next.Last e) = ahead.Other
completed (next.Closes e) = ahead.Other
completed next.Refused = ahead.Nothing
completed (next.To q) = ahead.Nothing
completed (next.Room q count) = ahead.Nothing
completed (next.Grow q) = ahead.Nothing
completed (next.Keep q) = ahead.Nothing
