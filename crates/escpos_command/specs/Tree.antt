-- The command table as a tree of bytes. Only proofs and private clauses use it: the definitions of CommandTable and Grammar
-- do not, and are proved to agree with it.
use Rattle.std.proofs.Common.{zero, suc}
use Rattle.std.specs.Prelude.{ℕ, ◌==◌, ◌+◌, ◌-◌, ◌*◌, ◌&&◌, nat_le, nat_lt, Bool, List, [], ◌∷◌, ◌++◌, length, if◌then◌else◌, None, Some}
use Rattle.escpos_command.specs.declared.bytes.TheConstants.{HT, LF, CR, DLE, ESC, GS, EOT}
use Rattle.escpos_command.specs.declared.command.Command.{Command}
use Rattle.escpos_command.specs.declared.command.Command.TheVariants as kind
use Rattle.escpos_command.specs.declared.bars.Form.TheVariants.{A, B}
use Rattle.escpos_command.specs.declared.bars.Symbology.{Symbology}
use Rattle.escpos_command.specs.declared.bars.Symbology.TheVariants.{UpcA, UpcE, Ean13, Ean8, Code39, Itf, Codabar, Code93, Code128, Gs1Code128}
use Rattle.escpos_command.specs.Parameters.{is_character, is_one_of_two, is_one_of_four, is_status_kind, is_feed_cut_mode, is_byte, is_mark_byte, is_qr_model, is_qr_size, is_qr_level, is_graphics_factor}
use Rattle.escpos_command.specs.Barcodes.{barcode, has_length, allows, is_digit, is_code39, is_codabar, is_codabar_end}
use Rattle.escpos_command.specs.declared.parameter.position.PositionKind.{PositionKind}
use Rattle.escpos_command.specs.declared.parameter.position.PositionKind.TheVariants as at
use Rattle.escpos_command.specs.declared.graphics.GraphicsForm.{GraphicsForm}
use Rattle.escpos_command.specs.declared.graphics.GraphicsForm.TheVariants.{Short, Long}
use Rattle.escpos_command.specs.declared.graphics.GraphicsHead.{GraphicsHead}
use Rattle.escpos_command.specs.Graphics.{stored_picture, counted_before, is_graphics_length, is_graphics_width, is_long_length, long_length}
use Rattle.escpos_command.specs.Positions.{word_of}
use Rattle.escpos_command.specs.QrCodes.{is_qr_length}
use Rattle.escpos_command.specs.Rasters.{picture, is_width, is_height}
use Rattle.escpos_command.specs.SettingTable.{table, may_follow, is_nothing, row_prefix}
use Rattle.escpos_command.specs.declared.setting.Row.{Row}

-- Where the bytes so far lead: to no command, to a whole one, or to a choice by the next byte.
pub data Tree : Type 0 where
  dead : Tree
  leaf : Command → Tree
  node : (ℕ → Tree) → Tree

-- Where bytes lead, from a tree on.
abbrev pub walk : Tree → List ℕ → Tree
walk dead bs = dead
walk (leaf c) [] = leaf c
walk (leaf c) (b ∷ bs) = dead
walk (node next) [] = node next
walk (node next) (b ∷ bs) = walk (next b) bs

-- The tree below a byte.
abbrev pub below : Tree → ℕ → Tree
below dead b = dead
below (leaf c) b = dead
below (node next) b = next b

-- These bytes lead to a tree, and all others to where another tree leads them.
unfoldable pub planted : List ℕ → Tree → Tree → Tree
planted [] t others = t
planted (b ∷ bs) t others = node (λ x. if x == b then planted bs t (below others x) else below others x)

-- The same for each of these, the first before the others.
unfoldable pub all_planted : List (List ℕ × Tree) → Tree → Tree
all_planted [] others = others
all_planted (form ∷ forms) others = planted form.0 form.1 (all_planted forms others)

-- These bytes, then a tree.
abbrev pub these : List ℕ → Tree → Tree
these [] t = t
these (b ∷ bs) t = node (λ x. if x == b then these bs t else dead)

-- A byte that passes a test, then a tree that the byte chooses.
abbrev pub passing : (ℕ → Bool) → (ℕ → Tree) → Tree
passing test next = node (λ x. if test x then next x else dead)

-- n more bytes after those read so far, each of which passes a test of its place, then the command that all of them make.
unfoldable pub counted : ℕ → (ℕ → ℕ → Bool) → (List ℕ → Command) → List ℕ → Tree
counted zero test make read = leaf (make read)
counted (suc n) test make read = passing (test (length read)) (λ b. counted n test make (read ++ b ∷ []))

-- The command of a content that ends here, where the content is whole.
abbrev pub ending : (List ℕ → Bool) → (List ℕ → Command) → List ℕ → Tree
ending whole make read = if whole read then leaf (make read) else dead

-- At most n more bytes after those read so far, each of which passes a test, then 00. All of them but the 00 make the
-- command, where they are whole.
unfoldable pub closed : ℕ → (ℕ → Bool) → (List ℕ → Bool) → (List ℕ → Command) → List ℕ → Tree
closed zero test whole make read = node (λ b. if b == 0 then ending whole make read else dead)
closed (suc n) test whole make read =
    node (λ b. if b == 0 then ending whole make read
    else if test b then closed n test whole make (read ++ b ∷ [])
    else dead)

-- At most n more bytes after those read so far, each of which passes a test, then one that stops them, then 00. All of them
-- but the 00 make the command.
unfoldable pub stopped : ℕ → (ℕ → Bool) → (ℕ → Bool) → (List ℕ → Command) → List ℕ → Tree
stopped zero test stops make read = node (λ b. if stops b then these (0x00 ∷ []) (leaf (make (read ++ b ∷ []))) else dead)
stopped (suc n) test stops make read =
    node (λ b. if stops b then these (0x00 ∷ []) (leaf (make (read ++ b ∷ [])))
    else if test b then stopped n test stops make (read ++ b ∷ [])
    else dead)

-- At most n more bytes after those read so far, each greater than the one before it, then 00. All of them but the 00 make the command.
unfoldable pub rising : ℕ → ℕ → (List ℕ → Command) → List ℕ → Tree
rising zero before make read = node (λ b. if b == 0 then leaf (make read) else dead)
rising (suc n) before make read =
    node (λ b. if b == 0 then leaf (make read)
    else if nat_lt before b && is_byte b then rising n b make (read ++ b ∷ [])
    else dead)

-- A table of bytes and trees, tried in order, and a tree for every other byte.
abbrev pub branch : List (ℕ × Tree) → (ℕ → Tree) → ℕ → Tree
branch [] other x = other x
branch (entry ∷ entries) other x = if x == entry.0 then entry.1 else branch entries other x

abbrev pub none : ℕ → Tree
none x = dead

-- A byte that passes a test and makes a command.
abbrev pub one : (ℕ → Bool) → (ℕ → Command) → Tree
one test make = passing test (λ n. leaf (make n))

-- The bytes of a position are a number, the low one first.
abbrev pub position_high : PositionKind → ℕ → Tree
position_high which low = one is_byte (λ high. kind.Position (which, word_of low high))

abbrev pub position : PositionKind → Tree
position which = passing is_byte (position_high which)

-- ESC D takes columns that rise, the first after 0.
abbrev pub tab_stops : ℕ → ℕ → List ℕ → Tree
tab_stops most before read = rising most before kind.TabStops read

-- ESC p takes a pin and two times.
abbrev pub pulse : Tree
pulse = passing is_one_of_two (λ m. passing is_byte (λ on. one is_byte (λ off. kind.Pulse (m, on, off))))

-- GS V takes a mode alone, or a mode and a feed.
abbrev pub cut : ℕ → Tree
cut m =
    if is_one_of_two m then leaf (kind.Cut (m, None))
    else if is_feed_cut_mode m then one is_byte (λ n. kind.Cut (m, Some n))
    else dead

-- GS ( H takes function 48, and an id.
abbrev pub mark : Tree
mark = these (0x06 ∷ 0x00 ∷ 0x30 ∷ 0x30 ∷ []) (counted 4 (λ place. is_mark_byte) kind.Mark [])

-- ## QR codes

-- The data of a QR code after m, of which this many bytes are still to come.
abbrev pub qr_data : ℕ → List ℕ → Tree
qr_data wanted read = counted wanted (λ place. is_byte) kind.QrStore read

-- A tree, where the length is this one.
abbrev pub at_length : ℕ → ℕ → Tree → Tree
at_length n wanted t = if n == wanted then t else dead

-- The functions of QR codes by fn, where n bytes come after the length. All but the data of a QR code have one length.
abbrev pub qr_functions : ℕ → List (ℕ × Tree)
qr_functions n =
    (0x41, at_length n 4 (passing is_qr_model (λ model. these (0x00 ∷ []) (leaf (kind.QrModel model)))))
    ∷ (0x43, at_length n 3 (one is_qr_size kind.QrSize))
    ∷ (0x45, at_length n 3 (one is_qr_level kind.QrLevel))
    ∷ (0x50, if nat_le 4 n then these (0x30 ∷ []) (qr_data (n - 3) []) else dead)
    ∷ (0x51, at_length n 3 (these (0x30 ∷ []) (leaf kind.QrPrint)))
    ∷ []

abbrev pub qr_function : ℕ → Tree
qr_function n = node (branch (qr_functions n) none)

-- After the length: cn, which is 31 for QR codes.
abbrev pub qr_code : ℕ → Tree
qr_code n = these (0x31 ∷ []) (qr_function n)

abbrev pub qr_high : ℕ → Tree
qr_high low = passing (is_qr_length low) (λ high. qr_code (low + 256 * high))

-- GS ( k: the length, with its low byte first, cn and fn.
abbrev pub qr : Tree
qr = passing is_byte qr_high

-- ## Graphics

-- The dots of graphics, of which this many bytes are still to come.
abbrev pub graphics_dots : GraphicsHead → ℕ → List ℕ → Tree
graphics_dots head wanted read = counted wanted (λ place. is_byte) (λ dots. kind.GraphicsStore (stored_picture head dots)) read

-- What stands before the dots.
abbrev pub graphics_head : GraphicsForm → ℕ → ℕ → ℕ → ℕ → GraphicsHead
graphics_head form across down width height = record { form = form; across = across; down = down; width = width; height = height }

-- The width and the height, with the low byte of each first, of graphics whose length counts so many bytes of dots; then these dots.
abbrev pub graphics_height_high : GraphicsForm → ℕ → ℕ → ℕ → ℕ → ℕ → Tree
graphics_height_high form count across down width low =
    passing (λ high. is_height (low + 256 * high)) (λ high. graphics_dots (graphics_head form across down width (low + 256 * high)) count [])

abbrev pub graphics_height : GraphicsForm → ℕ → ℕ → ℕ → ℕ → Tree
graphics_height form count across down width = passing is_byte (graphics_height_high form count across down width)

abbrev pub graphics_width_high : GraphicsForm → ℕ → ℕ → ℕ → ℕ → Tree
graphics_width_high form count across down low =
    passing (λ high. is_graphics_width (low + 256 * high)) (λ high. graphics_height form count across down (low + 256 * high))

abbrev pub graphics_width : GraphicsForm → ℕ → ℕ → ℕ → Tree
graphics_width form count across down = passing is_byte (graphics_width_high form count across down)

-- After the factors: the colour, which is the first.
abbrev pub graphics_color : GraphicsForm → ℕ → ℕ → ℕ → Tree
graphics_color form count across down = these (0x31 ∷ []) (graphics_width form count across down)

abbrev pub graphics_down : GraphicsForm → ℕ → ℕ → Tree
graphics_down form count across = passing is_graphics_factor (graphics_color form count across)

abbrev pub graphics_across : GraphicsForm → ℕ → Tree
graphics_across form count = passing is_graphics_factor (graphics_down form count)

-- After function 112: the tone, which is monochrome.
abbrev pub graphics_tone : GraphicsForm → ℕ → Tree
graphics_tone form count = these (0x30 ∷ []) (graphics_across form count)

-- The functions of graphics by fn, where n bytes come after the length.
abbrev pub graphics_functions : GraphicsForm → ℕ → List (ℕ × Tree)
graphics_functions form n =
    (0x02, at_length n 2 (leaf (kind.GraphicsPrint 0x02)))
    ∷ (0x32, at_length n 2 (leaf (kind.GraphicsPrint 0x32)))
    ∷ (0x70, if n == 2 then dead else graphics_tone form (n - counted_before))
    ∷ []

abbrev pub graphics_function : GraphicsForm → ℕ → Tree
graphics_function form n = node (branch (graphics_functions form n) none)

-- After the length: m, which is 30.
abbrev pub graphics_mode : GraphicsForm → ℕ → Tree
graphics_mode form n = these (0x30 ∷ []) (graphics_function form n)

-- GS ( L: the length, with its low byte first.
abbrev pub graphics_high : ℕ → Tree
graphics_high low = passing (λ high. is_byte high && is_graphics_length (low + 256 * high)) (λ high. graphics_mode Short (low + 256 * high))

abbrev pub graphics : Tree
graphics = passing is_byte graphics_high

-- GS 8 L: a length of four bytes, of which the last is 0.
abbrev pub long_third : ℕ → ℕ → Tree
long_third first second =
    passing (λ third. is_long_length (long_length first second third)) (λ third. these (0x00 ∷ []) (graphics_mode Long (long_length first second third)))

abbrev pub long_second : ℕ → Tree
long_second first = passing is_byte (long_third first)

abbrev pub long_graphics : Tree
long_graphics = these (0x4C ∷ []) (passing is_byte long_second)

-- ## Barcodes

-- The bytes of a symbology that allows the same bytes at all places.
abbrev pub plain_byte : Symbology → ℕ → Bool
plain_byte Code39 = is_code39
plain_byte _ = is_digit

-- Form A of such a symbology, after the bytes of the content read so far: at most this many more, then 00.
abbrev pub plain_content : Symbology → ℕ → List ℕ → Tree
plain_content symbology most read =
    closed most (plain_byte symbology) (λ content. has_length symbology (length content)) (λ content. kind.Bars (barcode A symbology content)) read

-- Form A of UPC-E: the first digit, and at most this many more. Without the number system 0 at its begin there are six in all.
abbrev pub upce_more : ℕ → ℕ
upce_more first = if first == 0x30 then 11 else 5

abbrev pub upce_content : Tree
upce_content = passing is_digit (λ first. plain_content UpcE (upce_more first) (first ∷ []))

-- Form A of CODABAR, after the bytes of the content read so far, at least one: at most this many more, then the last, then
-- 00.
abbrev pub codabar_content : ℕ → List ℕ → Tree
codabar_content most read = stopped most is_codabar is_codabar_end (λ content. kind.Bars (barcode A Codabar content)) read

-- Form B: the length n of the content, then the content, of which this many bytes are still to come.
abbrev pub content_of : Symbology → ℕ → ℕ → List ℕ → Tree
content_of symbology n wanted read = counted wanted (allows symbology n) (λ content. kind.Bars (barcode B symbology content)) read

abbrev pub form_b : Symbology → Tree
form_b symbology = passing (has_length symbology) (λ n. content_of symbology n n [])

-- The barcodes after GS k, by the byte m.
abbrev pub barcodes : List (ℕ × Tree)
barcodes =
    (0, plain_content UpcA 12 [])
    ∷ (1, upce_content)
    ∷ (2, plain_content Ean13 13 [])
    ∷ (3, plain_content Ean8 8 [])
    ∷ (4, plain_content Code39 255 [])
    ∷ (5, plain_content Itf 254 [])
    ∷ (6, passing is_codabar_end (λ first. codabar_content 253 (first ∷ [])))
    ∷ (65, form_b UpcA)
    ∷ (66, form_b UpcE)
    ∷ (67, form_b Ean13)
    ∷ (68, form_b Ean8)
    ∷ (69, form_b Code39)
    ∷ (70, form_b Itf)
    ∷ (71, form_b Codabar)
    ∷ (72, form_b Code93)
    ∷ (73, form_b Code128)
    ∷ (74, form_b Gs1Code128)
    ∷ []

-- ## Rasters

-- The dots of a raster of this scale and size, of which this many bytes are still to come.
abbrev pub dots_tree : ℕ → ℕ → ℕ → ℕ → List ℕ → Tree
dots_tree scale width height wanted read = counted wanted (λ place. is_byte) (λ dots. kind.Raster (picture scale width height dots)) read

-- GS v 0: a scale, a width whose high byte is 0, a height with its low byte first, then the dots.
abbrev pub after_low : ℕ → ℕ → ℕ → Tree
after_low scale width low =
    passing (λ high. is_height (low + 256 * high)) (λ high. dots_tree scale width (low + 256 * high) (width * (low + 256 * high)) [])

abbrev pub after_width : ℕ → ℕ → Tree
after_width scale width = passing is_byte (after_low scale width)

abbrev pub after_scale : ℕ → Tree
after_scale scale = passing is_width (λ width. these (0x00 ∷ []) (after_width scale width))

abbrev pub raster : Tree
raster = these (0x30 ∷ []) (passing is_one_of_four after_scale)

-- ## All commands

-- The commands of a form of their own: their prefix, and the tree after it.
abbrev pub forms : List (List ℕ × Tree)
forms =
    (LF ∷ [], leaf kind.LineFeed)
    ∷ (CR ∷ [], leaf kind.Return)
    ∷ (DLE ∷ EOT ∷ [], one is_status_kind kind.Status)
    ∷ (ESC ∷ 0x40 ∷ [], leaf kind.Init)
    ∷ (ESC ∷ 0x4A ∷ [], one is_byte kind.FeedUnits)
    ∷ (ESC ∷ 0x64 ∷ [], one is_byte kind.FeedLines)
    ∷ (ESC ∷ 0x70 ∷ [], pulse)
    ∷ (GS ∷ 0x28 ∷ 0x48 ∷ [], mark)
    ∷ (GS ∷ 0x28 ∷ 0x6B ∷ [], qr)
    ∷ (GS ∷ 0x56 ∷ [], node cut)
    ∷ (GS ∷ 0x61 ∷ [], one is_byte kind.AutomaticStatus)
    ∷ (GS ∷ 0x6B ∷ [], node (branch barcodes none))
    ∷ (GS ∷ 0x76 ∷ [], raster)
    ∷ (ESC ∷ 0x69 ∷ [], leaf (kind.OldCut 0x69))
    ∷ (ESC ∷ 0x6D ∷ [], leaf (kind.OldCut 0x6D))
    ∷ (HT ∷ [], leaf kind.Tab)
    ∷ (ESC ∷ 0x24 ∷ [], position at.Absolute)
    ∷ (ESC ∷ 0x5C ∷ [], position at.Relative)
    ∷ (GS ∷ 0x4C ∷ [], position at.LeftMargin)
    ∷ (GS ∷ 0x57 ∷ [], position at.AreaWidth)
    ∷ (ESC ∷ 0x44 ∷ [], tab_stops 32 0 [])
    ∷ (GS ∷ 0x28 ∷ 0x4C ∷ [], graphics)
    ∷ (GS ∷ 0x38 ∷ [], long_graphics)
    ∷ []

-- What follows the prefix of a setting.
abbrev pub setting_tree : Row → Tree
setting_tree r = if is_nothing r.values then leaf (kind.Set (r.kind, None)) else one (may_follow r.values) (λ n. kind.Set (r.kind, Some n))

-- The settings of a table, and elsewhere another tree.
unfoldable pub settings : List Row → Tree → Tree
settings [] others = others
settings (r ∷ rows) others = planted (row_prefix r) (setting_tree r) (settings rows others)

-- A character is its own command.
abbrev pub character : ℕ → Tree
character b = if is_character b then leaf (kind.Char b) else dead

unfoldable pub grammar : Tree
grammar = all_planted forms (settings table (node character))
