-- The table of the members that an entry of a receipt's JSON text may have: a line for each, with the commands that it
-- gives.
--
-- An entry is an object with one member, as `serde_json` reads it. A number is one that its `as_u64` gives.
use Rattle.std.specs.Prelude.{ℕ, ℤ, pos, negsuc, Bool, ◌+◌, ◌-◌, ◌*◌, ◌==◌, ◌&&◌, nat_le, List, [], ◌∷◌, ◌++◌, find, filter_map, chars, codes, Option, Some, None, option_map, Result, Ok, Err, if◌then◌else◌}
use Rattle.std.specs.Str.{bytes_eq}
use Rattle.hex.specs.Hex.{decode_of}
use Rattle.hex.specs.declared.error.FromHexError.{FromHexError}
use Rattle.serde_json.specs.Data.{Data, Items, string, array, object, no_items, item, no_members, member}
use Rattle.serde_json.specs.Events.{items_len, members_len}
use Rattle.serde_json.specs.Find.{as_bool, as_i64, as_number, as_str, as_u64, get_member}
use Rattle.escpos_command.specs.declared.bars.Form.TheVariants as form
use Rattle.escpos_command.specs.declared.bars.Symbology.{Symbology}
use Rattle.escpos_command.specs.declared.bars.Symbology.TheVariants.{UpcA, UpcE, Ean13, Ean8, Code39, Itf, Codabar, Code93, Code128, Gs1Code128}
use Rattle.escpos_command.specs.declared.command.Command.{Command}
use Rattle.escpos_command.specs.declared.command.Command.TheVariants as kind
use Rattle.escpos_command.specs.CommandTable.{set_to}
use Rattle.escpos_command.specs.declared.setting.SettingKind.TheVariants as sets
use Rattle.escpos_command.specs.Barcodes.{barcode, is_barcode}
use Rattle.escpos_command.specs.QrCodes.{is_qr_data}
use Rattle.escpos_command.specs.Rasters.{picture, is_raster, widest, highest}
use Rattle.escpos_command.specs.Settings.{last_or, stored, stored_graphics}
use Rattle.escpos_command.specs.Text.{is_some}
use Rattle.escpos_paper.specs.declared.style.Style.{Style}
use Rattle.escpos_paper.specs.Styles.{power_on, style}
use Rattle.escpos_text.specs.declared.encoding.Encoding.{Encoding}
use Rattle.escpos_text.specs.declared.encoding.TextFault.{TextFault}
use Rattle.escpos_text.specs.declared.encoding.TextFault.TheVariants as cannot
use Rattle.escpos_text.specs.declared.choice.TheConstants.{MOST_TABLES}
use Rattle.escpos_text.specs.Choices.{usual_tables}
use Rattle.escpos_text.specs.Writing.{written}
use Rattle.unicode_normalization.specs.Forms.{nfc}
use Rattle.escpos_layout.specs.declared.row.Side.{Side}
use Rattle.escpos_layout.specs.declared.row.Side.TheVariants.{Left, Right}
use Rattle.escpos_layout.specs.Columns.{columns_of}
use Rattle.escpos_layout.specs.declared.row.Field.{Field}
use Rattle.escpos_layout.specs.Layouts.{fields_fit, pair, row, rule}
use Rattle.escpos_layout.specs.Wrapping.{wrap}
use Rattle.escpos_layout.specs.Writing.{lines_written}
use Rattle.escpos_receipt.specs.declared.entry.EntryFault.{EntryFault}
use Rattle.escpos_receipt.specs.declared.entry.EntryFault.TheVariants.{BadShape, ControlByte, NoCharacter, Memory}
use Rattle.escpos_receipt.specs.declared.options.ReceiptOptions.{ReceiptOptions}
use Rattle.escpos_receipt.specs.declared.in_force.InForce.{InForce}
use Rattle.escpos_receipt.specs.declared.in_force.LineState.{LineState}
use Rattle.escpos_receipt.specs.Whole.{has_text}
use Rattle.escpos_receipt.specs.declared.member.Member.{Member}
use Rattle.escpos_receipt.specs.declared.member.Member.TheVariants as has

-- One step of several, each of which may give nothing.
infixl 10 ◌>>=◌
abbrev pub ◌>>=◌ : {A B : Type 0} → Option A → (A → Option B) → Option B
None >>= f = None
Some x >>= f = f x

-- ## Names

-- What a table of names has for this one.
abbrev pub named : {X : Type 0} → List (List ℕ × X) → List ℕ → Option X
named table name = option_map (λ row. row.1) (find (λ row. bytes_eq row.0 name) table)

abbrev pub members : List (List ℕ × Member)
members =
    (codes "text", has.Text) ∷ (codes "line", has.Line) ∷ (codes "pair", has.Pair) ∷ (codes "row", has.Row) ∷ (codes "rule", has.Rule)
    ∷ (codes "wrap", has.Wrap) ∷ (codes "feed", has.Feed) ∷ (codes "units", has.Units)
    ∷ (codes "spacing", has.Spacing) ∷ (codes "pulse", has.Pulse) ∷ (codes "mode", has.Mode) ∷ (codes "bold", has.Bold)
    ∷ (codes "strike", has.Strike) ∷ (codes "reverse", has.Reverse) ∷ (codes "underline", has.Underline)
    ∷ (codes "font", has.Font) ∷ (codes "table", has.Table) ∷ (codes "tables", has.Tables) ∷ (codes "charset", has.CharacterSet)
    ∷ (codes "align", has.Align) ∷ (codes "upside", has.Upside) ∷ (codes "size", has.Size)
    ∷ (codes "bar_height", has.BarHeight) ∷ (codes "bar_width", has.BarWidth) ∷ (codes "hri", has.Hri)
    ∷ (codes "hri_font", has.HriFont) ∷ (codes "bars", has.Bars) ∷ (codes "raster", has.Raster) ∷ (codes "qr", has.Qr)
    ∷ (codes "cut", has.Cut) ∷ (codes "feed_cut", has.FeedCut) ∷ []

abbrev pub fonts : List (List ℕ × ℕ)
fonts = (codes "A", 0) ∷ (codes "B", 1) ∷ []

abbrev pub alignments : List (List ℕ × ℕ)
alignments = (codes "left", 0) ∷ (codes "center", 1) ∷ (codes "right", 2) ∷ []

abbrev pub hri_positions : List (List ℕ × ℕ)
hri_positions = (codes "none", 0) ∷ (codes "above", 1) ∷ (codes "below", 2) ∷ (codes "both", 3) ∷ []

abbrev pub scales : List (List ℕ × ℕ)
scales = (codes "normal", 0) ∷ (codes "wide", 1) ∷ (codes "tall", 2) ∷ (codes "both", 3) ∷ []

abbrev pub cuts : List (List ℕ × ℕ)
cuts = (codes "full", 0) ∷ (codes "partial", 1) ∷ []

-- The levels of error correction of QR codes, by the byte that sets them.
abbrev pub levels : List (List ℕ × ℕ)
levels = (codes "L", 48) ∷ (codes "M", 49) ∷ (codes "Q", 50) ∷ (codes "H", 51) ∷ []

abbrev pub symbologies : List (List ℕ × Symbology)
symbologies =
    (codes "upca", UpcA) ∷ (codes "upce", UpcE) ∷ (codes "ean13", Ean13) ∷ (codes "ean8", Ean8) ∷ (codes "code39", Code39) ∷ (codes "itf", Itf)
    ∷ (codes "codabar", Codabar) ∷ (codes "code93", Code93) ∷ (codes "code128", Code128) ∷ (codes "gs1_128", Gs1Code128) ∷ []

-- ## Values

-- A number from the least to the most.
abbrev pub within : ℕ → ℕ → ℕ → Option ℕ
within least most n = if nat_le least n && nat_le n most then Some n else None

abbrev pub number_in : ℕ → ℕ → Data → Option ℕ
number_in least most v = as_number v >>= as_u64 >>= within least most

-- A string that is a name of the table.
abbrev pub choice_in : {X : Type 0} → List (List ℕ × X) → Data → Option X
choice_in table v = as_str v >>= named table

-- On for true and off for false, by bit 0.
abbrev pub switch_in : Data → Option ℕ
switch_in v = option_map (λ on. if on then 1 else 0) (as_bool v)

-- A member of an object that has this many members.
abbrev pub field : ℕ → List ℕ → Data → Option Data
field count name (object ms) = if members_len ms == count then get_member name ms else None
field count name _ = None

-- Width and height, each 1 to 8, as the byte of a size.
abbrev pub size_in : Data → Option ℕ
size_in (array (item w (item h no_items))) = do
  width ← number_in 1 8 w
  height ← number_in 1 8 h
  Some (16 * (width - 1) + (height - 1))
size_in _ = None

-- A line spacing: the string "default", or a number of motion units.
abbrev pub spacing_in : Data → Option Command
spacing_in (string name) = if bytes_eq name (codes "default") then Some (kind.Set (sets.DefaultSpacing, None)) else None
spacing_in v = option_map (set_to sets.LineSpacing) (number_in 0 255 v)

abbrev pub pulse_in : Data → Option (ℕ × ℕ × ℕ)
pulse_in v = do
  pin ← field 3 (codes "pin") v >>= number_in 0 1
  on ← field 3 (codes "on") v >>= number_in 0 255
  off ← field 3 (codes "off") v >>= number_in 0 255
  Some (pin, on, off)

-- A cut after a feed has the mode 65, or 66 where it leaves a point.
abbrev pub feed_cut_in : Data → Option (ℕ × Option ℕ)
feed_cut_in v = do
  cut ← field 2 (codes "kind") v >>= choice_in cuts
  units ← field 2 (codes "feed") v >>= number_in 0 255
  Some (65 + cut, Some units)

abbrev pub symbology_and_content : Data → Option (Symbology × List ℕ)
symbology_and_content v = do
  symbology ← field 2 (codes "kind") v >>= choice_in symbologies
  content ← field 2 (codes "content") v >>= as_str
  Some (symbology, content)

-- A barcode is sent in form B.
abbrev pub bars_of : Symbology → List ℕ → Option Command
bars_of symbology content =
    if is_barcode (barcode form.B symbology content) then Some (kind.Bars (barcode form.B symbology content)) else None

abbrev pub bars_in : Data → Option Command
bars_in v = symbology_and_content v >>= λ p. bars_of p.0 p.1

-- Scale, width and height, and the dots in hexadecimal.
abbrev pub size_and_digits : Data → Option (ℕ × ℕ × ℕ × List ℕ)
size_and_digits v = do
  scale ← field 4 (codes "scale") v >>= choice_in scales
  width ← field 4 (codes "x") v >>= number_in 1 widest
  height ← field 4 (codes "y") v >>= number_in 1 highest
  digits ← field 4 (codes "dots") v >>= as_str
  Some (scale, width, height, digits)

-- The bytes that a text writes in hexadecimal, in digits of either case.
abbrev pub bytes_of : Result (List ℕ) FromHexError → Option (List ℕ)
bytes_of (Ok bytes) = Some bytes
bytes_of (Err e) = None

abbrev pub raster_of : ℕ → ℕ → ℕ → List ℕ → Option Command
raster_of scale width height dots =
    if is_raster (picture scale width height dots) then Some (kind.Raster (picture scale width height dots)) else None

abbrev pub raster_in : Data → Option Command
raster_in v = size_and_digits v >>= λ p. bytes_of (decode_of p.3) >>= raster_of p.0 p.1 p.2

-- Module size, level of error correction and content of a QR code.
abbrev pub qr_parts : Data → Option (ℕ × ℕ × List ℕ)
qr_parts v = do
  size ← field 3 (codes "size") v >>= number_in 1 16
  level ← field 3 (codes "level") v >>= choice_in levels
  content ← field 3 (codes "content") v >>= as_str
  Some (size, level, content)

-- A QR code is sized, given its level, stored and printed.
abbrev pub qr_commands : ℕ → ℕ → List ℕ → List Command
qr_commands size level content = kind.QrSize size ∷ kind.QrLevel level ∷ kind.QrStore content ∷ kind.QrPrint ∷ []

-- The content is sent as its bytes in UTF-8.
abbrev pub qr_of : ℕ → ℕ → List ℕ → Option (List Command)
qr_of size level content = if is_qr_data content then Some (qr_commands size level content) else None

abbrev pub qr_in : Data → Option (List Command)
qr_in v = qr_parts v >>= λ p. qr_of p.0 p.1 p.2

-- What each value of a list is, if each is something.
abbrev pub each_of : {A : Type 0} → (Data → Option A) → Items → Option (List A)
each_of is no_items = Some []
each_of is (item v vs) = do
  x ← is v
  xs ← each_of is vs
  Some (x ∷ xs)

-- The numbers of a list, each of a byte.
abbrev pub numbers_in : Items → Option (List ℕ)
numbers_in vs = each_of (number_in 0 255) vs

-- At most 32 code tables, by their numbers.
abbrev pub tables_in : Data → Option (List ℕ)
tables_in (array vs) = if nat_le (items_len vs) MOST_TABLES then numbers_in vs else None
tables_in _ = None

-- ## Text

-- Why an entry gives no commands, by why its text can't be printed.
abbrev pub fault_of : TextFault → EntryFault
fault_of (cannot.Control c) = ControlByte
fault_of (cannot.NoCharacter c) = NoCharacter c
fault_of cannot.Memory = Memory

abbrev pub or_fault : Result (List Command) TextFault → Result (List Command) EntryFault
or_fault (Ok cs) = Ok cs
or_fault (Err why) = Err (fault_of why)

-- A string is printed in its composed form, character after character.
abbrev pub text_in : Encoding → Option (List ℕ) → Result (List Command) EntryFault
text_in e None = Err BadShape
text_in e (Some bytes) = or_fault (written e (nfc (chars bytes)))

abbrev pub with_line_feed : Result (List Command) EntryFault → Result (List Command) EntryFault
with_line_feed (Ok cs) = Ok (cs ++ kind.LineFeed ∷ [])
with_line_feed (Err e) = Err e

-- ## Layouts

-- How many characters a line has.
abbrev pub columns_in : LineState → ℕ
columns_in l = columns_of l.width l.style

-- A string in its composed form.
abbrev pub composed_in : Data → Option (List ℕ)
composed_in v = option_map (λ bytes. nfc (chars bytes)) (as_str v)

-- The two values of an array of two.
abbrev pub two_values : Data → Option (Data × Data)
two_values (array (item first (item second no_items))) = Some (first, second)
two_values _ = None

-- A text on the left and a text on the right.
abbrev pub pair_in : Data → Option (List ℕ × List ℕ)
pair_in v = do
  values ← two_values v
  left ← composed_in values.0
  right ← composed_in values.1
  Some (left, right)

-- A string of one character.
abbrev pub one_character : List ℕ → Option ℕ
one_character (c ∷ []) = Some c
one_character _ = None

-- The width of a field and the side of its text: the left one, or, where the number is negative, the right one.
abbrev pub side_of : ℤ → Option (Side × ℕ)
side_of (pos n) = Some (Left, n)
side_of (negsuc n) = Some (Right, n + 1)

abbrev pub side_in : Data → Option (Side × ℕ)
side_in v = as_number v >>= as_i64 >>= side_of

-- A text, and the width of its field.
abbrev pub field_in : Data → Option Field
field_in v = do
  values ← two_values v
  side ← side_in values.1
  text ← composed_in values.0
  Some (record { text = text; width = side.1; side = side.0 })

abbrev pub items_in : Data → Option Items
items_in (array vs) = Some vs
items_in _ = None

abbrev pub row_fields : Data → Option (List Field)
row_fields v = items_in v >>= each_of field_in

-- Fields that fit on a line, as that line.
abbrev pub row_of : ℕ → List Field → Option (List (List ℕ))
row_of columns fields = if fields_fit columns fields then Some (row fields ∷ []) else None

-- The lines of a layout, where a line has so many characters; none for any other member.
abbrev pub lines_of : ℕ → Member → Data → Option (List (List ℕ))
lines_of columns has.Pair v = option_map (λ p. pair columns p.0 p.1) (pair_in v)
lines_of columns has.Row v = row_fields v >>= row_of columns
lines_of columns has.Rule v = option_map (λ c. rule columns c ∷ []) (composed_in v >>= one_character)
lines_of columns has.Wrap v = option_map (wrap columns) (composed_in v)
lines_of columns _ v = None

-- Lines begin on a line of their own: text that is in the line is printed first.
abbrev pub line_ended : Bool → List Command
line_ended in_line = if in_line then kind.LineFeed ∷ [] else []

abbrev pub after_line : Bool → Result (List Command) EntryFault → Result (List Command) EntryFault
after_line in_line (Ok cs) = Ok (line_ended in_line ++ cs)
after_line in_line (Err why) = Err why

abbrev pub laid_out : InForce → Option (List (List ℕ)) → Result (List Command) EntryFault
laid_out f None = Err BadShape
laid_out f (Some lines) = after_line f.line.in_line (or_fault (lines_written f.encoding lines))

-- ## The table

abbrev pub one : Option Command → Result (List Command) EntryFault
one None = Err BadShape
one (Some c) = Ok (c ∷ [])

abbrev pub all : Option (List Command) → Result (List Command) EntryFault
all None = Err BadShape
all (Some cs) = Ok cs

-- A choice of code tables prints nothing.
abbrev pub nothing : Option (List ℕ) → Result (List Command) EntryFault
nothing None = Err BadShape
nothing (Some ns) = Ok []

-- The command of a member with this value; none for a text, a layout, a QR code or a choice of code tables, which aren't one command.
abbrev pub command_of : Member → Data → Option Command
command_of has.Feed v = option_map kind.FeedLines (number_in 0 255 v)
command_of has.Units v = option_map kind.FeedUnits (number_in 0 255 v)
command_of has.Spacing v = spacing_in v
command_of has.Pulse v = option_map kind.Pulse (pulse_in v)
command_of has.Mode v = option_map (set_to sets.Mode) (number_in 0 255 v)
command_of has.Bold v = option_map (λ on. set_to sets.Emphasis (if on then 1 else 0)) (as_bool v)
command_of has.Strike v = option_map (set_to sets.DoubleStrike) (switch_in v)
command_of has.Reverse v = option_map (set_to sets.Reverse) (switch_in v)
command_of has.Underline v = option_map (set_to sets.Underline) (number_in 0 2 v)
command_of has.Font v = option_map (set_to sets.Font) (choice_in fonts v)
command_of has.Table v = option_map (set_to sets.Table) (number_in 0 255 v)
command_of has.CharacterSet v = option_map (set_to sets.CharacterSet) (number_in 0 17 v)
command_of has.Align v = option_map (set_to sets.Align) (choice_in alignments v)
command_of has.Upside v = option_map (set_to sets.UpsideDown) (switch_in v)
command_of has.Size v = option_map (set_to sets.Size) (size_in v)
command_of has.BarHeight v = option_map (set_to sets.BarHeight) (number_in 1 255 v)
command_of has.BarWidth v = option_map (set_to sets.BarWidth) (number_in 2 6 v)
command_of has.Hri v = option_map (set_to sets.HriPlace) (choice_in hri_positions v)
command_of has.HriFont v = option_map (set_to sets.HriFont) (choice_in fonts v)
command_of has.Bars v = bars_in v
command_of has.Raster v = raster_in v
command_of has.Cut v = option_map (λ m. kind.Cut (m, None)) (choice_in cuts v)
command_of has.FeedCut v = option_map kind.Cut (feed_cut_in v)
command_of _ v = None

-- The commands of a member with this value, where this is in force; or why there are none.
abbrev pub commands_of : InForce → Member → Data → Result (List Command) EntryFault
commands_of f has.Text v = text_in f.encoding (as_str v)
commands_of f has.Line v = with_line_feed (text_in f.encoding (as_str v))
commands_of f has.Pair v = laid_out f (lines_of (columns_in f.line) has.Pair v)
commands_of f has.Row v = laid_out f (lines_of (columns_in f.line) has.Row v)
commands_of f has.Rule v = laid_out f (lines_of (columns_in f.line) has.Rule v)
commands_of f has.Wrap v = laid_out f (lines_of (columns_in f.line) has.Wrap v)
commands_of f has.Qr v = all (qr_in v)
commands_of f has.Tables v = nothing (tables_in v)
commands_of f m v = one (command_of m v)

-- The name and the value of an object's only member.
abbrev pub only_member : Data → Option (List ℕ × Data)
only_member (object (member name v no_members)) = Some (name, v)
only_member _ = None

-- The only member of an entry, if it is one of the table, and its value.
abbrev pub member_of : Data → Option (Member × Data)
member_of d = do
  m ← only_member d
  has ← named members m.0
  Some (has, m.1)

-- What an entry means where this is in force: its commands, or why there are none.
abbrev pub commands_or : InForce → Option (Member × Data) → Result (List Command) EntryFault
commands_or f None = Err BadShape
commands_or f (Some m) = commands_of f m.0 m.1

abbrev pub meaning : InForce → Data → Result (List Command) EntryFault
meaning f d = commands_or f (member_of d)

-- ## What is in force

-- The code tables that an entry names to choose from.
abbrev pub names_tables : Option (Member × Data) → Option (List ℕ)
names_tables None = None
names_tables (Some (has.Tables, v)) = tables_in v
names_tables (Some m) = None

abbrev pub chosen_by : Data → Option (List ℕ)
chosen_by d = names_tables (member_of d)

-- The encoding in force for the entry after these, which give these commands: code table and character set are those that the
-- commands set, from power on; the tables to choose from are those of the last entry that names some, or the usual ones.
abbrev pub encoding_for : ReceiptOptions → List Data → List Command → Encoding
encoding_for options earlier before = record {
  set = (style before).character_set;
  table = (style before).table;
  choice = last_or usual_tables (filter_map chosen_by earlier);
  replacement = options.replacement;
}

-- A style with another code table. Which table is in force is the encoding's to say; what a line is like doesn't depend on it.
abbrev pub at_table : ℕ → Style → Style
at_table table s = record s { table = table }

-- What a line is like after these commands: the style of its characters, but for their code table, and whether text is in it.
abbrev pub line_state : ReceiptOptions → List Command → LineState
line_state options before = record {
  width = options.width;
  style = at_table power_on.table (style before);
  in_line = has_text before;
  stored = is_some (stored before);
  graphics = is_some (stored_graphics before);
}

abbrev pub in_force : ReceiptOptions → List Data → List Command → InForce
in_force options earlier before = record { encoding = encoding_for options earlier before; line = line_state options before }
