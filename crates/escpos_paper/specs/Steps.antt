-- What one more command makes of the settings, line and paper. Only private clauses, the model of a page and proofs use these
-- definitions; those of a whole list of commands are proved to agree with them.
use Rattle.std.specs.Prelude.{ℕ, ◌-◌, ◌&&◌, not, Bool, true, List, [], ◌∷◌, ◌++◌, Option, None, Some, if◌then◌else◌, vec_len, vec_capacity}
use Rattle.escpos_command.specs.declared.command.Command.{Command}
use Rattle.escpos_command.specs.declared.command.Command.TheVariants as kind
use Rattle.escpos_command.specs.Meanings.{leaves_a_point}
use Rattle.std.specs.Option.{unwrap_or}
use Rattle.escpos_command.specs.Text.{ends_text, is_some}
use Rattle.escpos_paper.specs.declared.style.BarStyle.{BarStyle}
use Rattle.escpos_paper.specs.declared.style.LineStyle.{LineStyle}
use Rattle.escpos_paper.specs.declared.style.QrStyle.{QrStyle}
use Rattle.escpos_paper.specs.declared.style.Settings.{Settings}
use Rattle.escpos_paper.specs.declared.cell.Cell.{Cell}
use Rattle.escpos_paper.specs.declared.paper.Paper.{Paper}
use Rattle.escpos_paper.specs.declared.item.Item.{Item}
use Rattle.escpos_paper.specs.declared.item.Item.TheVariants.{Feed, FeedUnits, Cut}
use Rattle.escpos_paper.specs.Dots.{area_dots}
use Rattle.escpos_paper.specs.declared.style.Placing.{Placing}
use Rattle.escpos_paper.specs.Styles.{acts_at_line_start, is_empty, power_on_settings, set_after, sets_stops, style_after, sets_alignment, sets_margin, sets_area, sets_upside_down, sets_spacing, sets_bar_height, sets_module_width, sets_hri_place, sets_hri_font, sets_qr_model, sets_qr_size, sets_correction}
use Rattle.escpos_command.specs.Settings.{sets_graphics, sets_stored}
use Rattle.escpos_paper.specs.Storage.{Storage}
use Rattle.escpos_paper.specs.Cells.{Move, Placed, cell, move_of, moved_to, next_place, nothing_placed, place_after, placed_cell}
use Rattle.escpos_paper.specs.Rows.{fits}
use Rattle.escpos_paper.specs.Printed.{row_of, row_and_feed, bars_item, raster_item, prints_graphics, prints_stored}
use Rattle.escpos_paper.specs.Page.{Sheet, PageView, room_for_items}

abbrev pub bar_style_after : BarStyle → Command → BarStyle
bar_style_after s c = record {
  height = set_after sets_bar_height power_on_settings.bars.height s.height c;
  module_width = set_after sets_module_width power_on_settings.bars.module_width s.module_width c;
  place = set_after sets_hri_place power_on_settings.bars.place s.place c;
  hri_font = set_after sets_hri_font power_on_settings.bars.hri_font s.hri_font c;
}

-- The value of an attribute that is set only at the beginning of a line.
abbrev pub set_at_start : {X : Type 0} → Bool → (Command → Option X) → X → X → Command → X
set_at_start is_line_empty sets start value c = if acts_at_line_start c && not is_line_empty then value else set_after sets start value c

abbrev pub placing_after : Bool → Placing → Command → Placing
placing_after is_line_empty p c = record {
  side = set_at_start is_line_empty sets_alignment power_on_settings.lines.alignment.side p.side c;
  margin = set_at_start is_line_empty sets_margin power_on_settings.lines.alignment.margin p.margin c;
  width = set_at_start is_line_empty sets_area power_on_settings.lines.alignment.width p.width c;
}

abbrev pub line_style_after : Bool → LineStyle → Command → LineStyle
line_style_after is_line_empty s c = record {
  alignment = placing_after is_line_empty s.alignment c;
  upside_down = set_at_start is_line_empty sets_upside_down power_on_settings.lines.upside_down s.upside_down c;
  spacing = set_after sets_spacing power_on_settings.lines.spacing s.spacing c;
}

abbrev pub qr_style_after : QrStyle → Command → QrStyle
qr_style_after s c = record {
  model = set_after sets_qr_model power_on_settings.codes.model s.model c;
  size = set_after sets_qr_size power_on_settings.codes.size s.size c;
  correction = set_after sets_correction power_on_settings.codes.correction s.correction c;
}

-- All settings after one more command.
abbrev pub settings_after : Bool → Settings → Command → Settings
settings_after is_line_empty s c = record {
  text = style_after s.text c;
  bars = bar_style_after s.bars c;
  lines = line_style_after is_line_empty s.lines c;
  codes = qr_style_after s.codes c;
}

-- The line with one more cell where the next one stands; where that doesn't fit, it begins a new line.
abbrev pub with_next : Placed → Cell → List Cell
with_next p x = p.cells ++ placed_cell p.moved x ∷ []

abbrev pub has_room : ℕ → Placed → Cell → Bool
has_room area p x = fits area (with_next p x)

abbrev pub with_cell : ℕ → Placed → Cell → Placed
with_cell area p x = record { cells = if has_room area p x then with_next p x else x ∷ []; moved = None }

-- The line after a move, if there is one.
abbrev pub moved_by : ℕ → Placed → Option Move → Placed
moved_by area p None = p
moved_by area p (Some m) = moved_to p (place_after area (next_place p) m)

-- The printing area of settings.
abbrev pub area_of : ℕ → Settings → ℕ
area_of width s = area_dots width s.lines.alignment

abbrev pub line_after : ℕ → Settings → List ℕ → Storage → Placed → Command → Placed
line_after width s stops stored p (kind.Char b) = with_cell (area_of width s) p (cell s.text b)
line_after width s stops stored p kind.QrPrint = if is_some stored.codes then nothing_placed else p
line_after width s stops stored p (kind.GraphicsPrint fn) = if is_some stored.graphics then nothing_placed else p
line_after width s stops stored p c = if ends_text c then nothing_placed else moved_by (area_of width s) p (move_of stops c)

-- What it prints.
abbrev pub step_prints : ℕ → Settings → Storage → Placed → Command → List Item
step_prints width s stored p (kind.Char b) = if has_room (area_of width s) p (cell s.text b) then [] else row_and_feed s.lines p.cells
step_prints width s stored p kind.LineFeed = row_of s.lines p.cells ++ Feed 1 s.lines.spacing ∷ []
step_prints width s stored p (kind.FeedLines n) = row_of s.lines p.cells ++ Feed n s.lines.spacing ∷ []
step_prints width s stored p (kind.FeedUnits n) = row_of s.lines p.cells ++ FeedUnits n ∷ []
step_prints width s stored p (kind.Bars barcode) = row_and_feed s.lines p.cells ++ bars_item s.lines.alignment s.bars barcode ∷ []
step_prints width s stored p (kind.Raster raster) = row_and_feed s.lines p.cells ++ raster_item s.lines.alignment raster ∷ []
step_prints width s stored p (kind.Cut cut) = row_and_feed s.lines p.cells ++ Cut (leaves_a_point cut.0) cut.1 ∷ []
step_prints width s stored p (kind.OldCut b) = row_and_feed s.lines p.cells ++ Cut true None ∷ []
step_prints width s stored p kind.QrPrint = prints_stored s.lines s.codes stored.codes p.cells
step_prints width s stored p (kind.GraphicsPrint fn) = prints_graphics s.lines stored.graphics p.cells
step_prints width s stored p _ = []

-- What is stored after one more command.
abbrev pub storage_after : Storage → Command → Storage
storage_after s c = record { codes = set_after sets_stored None s.codes c; graphics = set_after sets_graphics None s.graphics c }

-- What a paper has stored.
abbrev pub storage_on : Paper → Storage
storage_on paper = record { codes = paper.store.stored; graphics = paper.graphics }

-- What a paper has, as a sheet.
abbrev pub sheet_on : Paper → Sheet
sheet_on paper = record {
  line_dots = paper.line_width;
  items = paper.items.items;
  settings = paper.settings;
  storage = storage_on paper;
  stops = paper.stops;
  line = paper.line;
}

-- What a page of this paper has.
abbrev pub page_on : Paper → PageView
page_on paper = record { sheet = sheet_on paper; room = room_for_items paper.store.ready (vec_capacity paper.items - vec_len paper.items) }

-- The sheet after a command.
abbrev pub sheet_after : Sheet → Command → Sheet
sheet_after sheet c = record {
  line_dots = sheet.line_dots;
  items = sheet.items ++ step_prints sheet.line_dots sheet.settings sheet.storage sheet.line c;
  settings = settings_after (is_empty sheet.line.cells) sheet.settings c;
  storage = storage_after sheet.storage c;
  stops = unwrap_or (sets_stops sheet.settings.text c) sheet.stops;
  line = line_after sheet.line_dots sheet.settings sheet.stops sheet.storage sheet.line c;
}

-- The sheet after these commands, one after another.
unfoldable pub sheet_after_all : Sheet → List Command → Sheet
sheet_after_all sheet [] = sheet
sheet_after_all sheet (c ∷ cs) = sheet_after_all (sheet_after sheet c) cs
