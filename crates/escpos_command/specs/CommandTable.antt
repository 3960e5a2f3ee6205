-- The command table, with one line for each kind of command; the commands that only set something have one line in all, and a
-- row each in the table of settings.
--
-- The bytes are those of the ESC/POS Command Reference, with the parameters as sent in their places.
use Rattle.std.specs.Prelude.{ℕ, ◌≡◌, ◌+◌, ◌/◌, ◌%◌, Bool, true, List, [], ◌∷◌, ◌++◌, length, IsTrue, Some, option_to_list}
use Rattle.std.specs.List.{flat_map, AllByRecursion}
use Rattle.escpos_command.specs.declared.bytes.TheConstants.{HT, LF, CR, DLE, ESC, GS, EOT}
use Rattle.escpos_command.specs.declared.command.Command.{Command}
use Rattle.escpos_command.specs.declared.command.Command.TheVariants as kind
use Rattle.escpos_command.specs.declared.setting.SettingKind.{SettingKind}
use Rattle.escpos_command.specs.declared.bars.Form.{Form}
use Rattle.escpos_command.specs.declared.bars.Form.TheVariants.{A, B}
use Rattle.escpos_command.specs.Parameters.{is_byte, is_character, is_status_kind, is_cut, is_old_cut, is_word, is_tab_stops, is_pulse, is_qr_model, is_qr_size, is_qr_level, is_graphics_print, is_mark_id}
use Rattle.escpos_command.specs.Barcodes.{Barcode, barcode_mode, is_barcode}
use Rattle.escpos_command.specs.Graphics.{StoredPicture, counted_before, graphics_letters, is_graphics, length_bytes}
use Rattle.escpos_command.specs.Positions.{position_prefix, word_bytes}
use Rattle.escpos_command.specs.QrCodes.{is_qr_data}
use Rattle.escpos_command.specs.Rasters.{Picture, is_raster}
use Rattle.escpos_command.specs.SettingTable.{table, row_for, row_prefix, is_setting}

-- A line of the table: the fixed bytes, the parameter bytes that follow them, the content of a barcode, the dots of a raster
-- or of graphics, the data of a QR code or the columns of tab stops, a suffix byte, and whether parameters and content are in range.
pub record Entry : Type 0 where
  pub prefix : List ℕ
  pub parameters : List ℕ
  pub content : List ℕ
  pub suffix : List ℕ
  pub in_range : Bool

-- A line with no content.
abbrev pub entry : List ℕ → List ℕ → Bool → Entry
entry prefix parameters in_range =
    record { prefix = prefix; parameters = parameters; content = []; suffix = []; in_range = in_range }

-- Form A of a barcode ends with 00; form B has the length of the content before it.
abbrev pub sent_length : Form → ℕ → List ℕ
sent_length A n = []
sent_length B n = n ∷ []

abbrev pub sent_suffix : Form → List ℕ
sent_suffix A = 0x00 ∷ []
sent_suffix B = []

abbrev pub barcode_entry : Barcode → Entry
barcode_entry bars = record {
  prefix = GS ∷ 0x6B ∷ [];
  parameters = barcode_mode bars.form bars.symbology ∷ sent_length bars.form (length bars.content);
  content = bars.content;
  suffix = sent_suffix bars.form;
  in_range = is_barcode bars;
}

-- The size of a raster is sent as four bytes, the low one of each number first.
abbrev pub raster_entry : Picture → Entry
raster_entry raster = record {
  prefix = GS ∷ 0x76 ∷ 0x30 ∷ [];
  parameters = raster.scale ∷ raster.width % 256 ∷ raster.width / 256 ∷ raster.height % 256 ∷ raster.height / 256 ∷ [];
  content = raster.dots;
  suffix = [];
  in_range = is_raster raster;
}

-- Function 112: the number of bytes that follow it, m, fn, the tone, the two factors, the colour, the size, the low byte of each number
-- first, and the dots.
abbrev pub graphics_entry : StoredPicture → Entry
graphics_entry p = record {
  prefix = graphics_letters p.head.form;
  parameters =
      length_bytes p.head.form (length p.dots + counted_before)
      ++ 0x30 ∷ 0x70 ∷ 0x30 ∷ p.head.across ∷ p.head.down ∷ 0x31 ∷ word_bytes p.head.width ++ word_bytes p.head.height;
  content = p.dots;
  suffix = [];
  in_range = is_graphics p;
}

-- GS ( k, function 65 of QR codes: the model, and 00.
abbrev pub qr_model_entry : ℕ → Entry
qr_model_entry n = record {
  prefix = GS ∷ 0x28 ∷ 0x6B ∷ 0x04 ∷ 0x00 ∷ 0x31 ∷ 0x41 ∷ [];
  parameters = n ∷ [];
  content = [];
  suffix = 0x00 ∷ [];
  in_range = is_qr_model n;
}

-- Function 80: the number of bytes that follow it, cn, fn, m, and the data.
abbrev pub qr_store_entry : List ℕ → Entry
qr_store_entry stored = record {
  prefix = GS ∷ 0x28 ∷ 0x6B ∷ [];
  parameters = (length stored + 3) % 256 ∷ (length stored + 3) / 256 ∷ 0x31 ∷ 0x50 ∷ 0x30 ∷ [];
  content = stored;
  suffix = [];
  in_range = is_qr_data stored;
}

-- ESC D: the columns of tab stops, and 00.
abbrev pub tab_stops_entry : List ℕ → Entry
tab_stops_entry columns = record {
  prefix = ESC ∷ 0x44 ∷ [];
  parameters = [];
  content = columns;
  suffix = 0x00 ∷ [];
  in_range = is_tab_stops columns;
}

-- The line for a command.
abbrev pub entry_of : Command → Entry
entry_of (kind.Char b) = entry [] (b ∷ []) (is_character b)  -- the character itself
entry_of kind.Tab = entry (HT ∷ []) [] true  -- HT
entry_of kind.LineFeed = entry (LF ∷ []) [] true  -- LF
entry_of kind.Return = entry (CR ∷ []) [] true  -- CR
entry_of kind.Init = entry (ESC ∷ 0x40 ∷ []) [] true  -- ESC @
entry_of (kind.Set s) = entry (row_prefix (row_for table s.0)) (option_to_list s.1) (is_setting table s)  -- a row of the table of settings
entry_of (kind.FeedLines n) = entry (ESC ∷ 0x64 ∷ []) (n ∷ []) (is_byte n)  -- ESC d
entry_of (kind.FeedUnits n) = entry (ESC ∷ 0x4A ∷ []) (n ∷ []) (is_byte n)  -- ESC J
entry_of (kind.Position p) = entry (position_prefix p.0) (word_bytes p.1) (is_word p.1)  -- ESC $, ESC \, GS L, GS W
entry_of (kind.TabStops columns) = tab_stops_entry columns  -- ESC D
entry_of (kind.Pulse pulse) = entry (ESC ∷ 0x70 ∷ []) (pulse.0 ∷ pulse.1 ∷ pulse.2 ∷ []) (is_pulse pulse)  -- ESC p
entry_of (kind.Bars bars) = barcode_entry bars  -- GS k, form A or B
entry_of (kind.Raster raster) = raster_entry raster  -- GS v 0
entry_of (kind.GraphicsStore graphics) = graphics_entry graphics  -- GS ( L or GS 8 L, function 112
entry_of (kind.GraphicsPrint fn) = entry (GS ∷ 0x28 ∷ 0x4C ∷ 0x02 ∷ 0x00 ∷ 0x30 ∷ []) (fn ∷ []) (is_graphics_print fn)  -- GS ( L, function 50
entry_of (kind.QrModel n) = qr_model_entry n  -- GS ( k, function 65
entry_of (kind.QrSize n) = entry (GS ∷ 0x28 ∷ 0x6B ∷ 0x03 ∷ 0x00 ∷ 0x31 ∷ 0x43 ∷ []) (n ∷ []) (is_qr_size n)  -- GS ( k, function 67
entry_of (kind.QrLevel n) = entry (GS ∷ 0x28 ∷ 0x6B ∷ 0x03 ∷ 0x00 ∷ 0x31 ∷ 0x45 ∷ []) (n ∷ []) (is_qr_level n)  -- GS ( k, function 69
entry_of (kind.QrStore stored) = qr_store_entry stored  -- GS ( k, function 80
entry_of kind.QrPrint = entry (GS ∷ 0x28 ∷ 0x6B ∷ 0x03 ∷ 0x00 ∷ 0x31 ∷ 0x51 ∷ 0x30 ∷ []) [] true  -- GS ( k, function 81
entry_of (kind.Cut cut) = entry (GS ∷ 0x56 ∷ []) (cut.0 ∷ option_to_list cut.1) (is_cut cut.0 cut.1)  -- GS V m, or GS V m n
entry_of (kind.OldCut b) = entry (ESC ∷ []) (b ∷ []) (is_old_cut b)  -- ESC i, ESC m
entry_of (kind.AutomaticStatus n) = entry (GS ∷ 0x61 ∷ []) (n ∷ []) (is_byte n)  -- GS a
entry_of (kind.Status n) = entry (DLE ∷ EOT ∷ []) (n ∷ []) (is_status_kind n)  -- DLE EOT
entry_of (kind.Mark id) = entry (GS ∷ 0x28 ∷ 0x48 ∷ 0x06 ∷ 0x00 ∷ 0x30 ∷ 0x30 ∷ []) id (is_mark_id id)  -- GS ( H, function 48

-- The command that sets this to a parameter.
abbrev pub set_to : SettingKind → ℕ → Command
set_to which n = kind.Set (which, Some n)

-- The parameters are in the ranges of the table. "A command" means one of these in what follows.
abbrev pub IsCommand : Command → Type 0
IsCommand c = IsTrue (entry_of c).in_range

-- All of these are commands.
abbrev pub AreCommands : List Command → Type 0
AreCommands cs = AllByRecursion IsCommand cs

-- The bytes of the table's line, with the parameters and the content put in.
abbrev pub row : Command → List ℕ
row c = (entry_of c).prefix ++ (entry_of c).parameters ++ (entry_of c).content ++ (entry_of c).suffix

-- The bytes are the spelling of the command.
pub record Spells (c : Command) (bs : List ℕ) : Type 0 where
  pub in_range : IsCommand c
  pub in_table : bs ≡ row c

-- The spellings of the commands, joined.
abbrev pub spell : List Command → List ℕ
spell cs = flat_map row cs
