-- The model of a page, and which commands leave it.
use Rattle.std.specs.Prelude.{ℕ, ◌≡◌, Bool, IsTrue, List, ◌++◌, if◌then◌else◌}
use Rattle.escpos_command.specs.declared.command.Command.{Command}
use Rattle.escpos_command.specs.CommandTable.{AreCommands}
use Rattle.escpos_command.specs.LineWidths.{is_line_width}
use Rattle.escpos_paper.specs.declared.item.Item.{Item}
use Rattle.escpos_paper.specs.declared.style.Settings.{Settings}
use Rattle.escpos_paper.specs.Styles.{settings, stops}
use Rattle.escpos_paper.specs.Rows.{placed}
use Rattle.escpos_paper.specs.Cells.{Placed}
use Rattle.escpos_paper.specs.Printed.{printed}
use Rattle.escpos_paper.specs.Storage.{Storage, storage}

-- What commands leave: the dots of a line, which no command changes, the items on paper, the settings, what is stored,
-- the tab stops, and the line that isn't printed yet, with where its next cell stands.
pub record Sheet : Type 0 where
  pub line_dots : ℕ
  pub items : List Item
  pub settings : Settings
  pub storage : Storage
  pub stops : List ℕ
  pub line : Placed

-- The model of a page: its sheet, and for how many more items it has room; for none, where it has no room for a copy of the data
-- that is stored.
pub record PageView : Type 0 where
  pub sheet : Sheet
  pub room : ℕ

abbrev pub room_for_items : Bool → ℕ → ℕ
room_for_items is_ready room = if is_ready then room else 0

-- The sheet is what these commands leave on paper that held the items `kept`, from power-on settings and an
-- empty line, in lines of this width in dots.
abbrev pub SheetIs : ℕ → Sheet → List Item → List Command → Type 0
SheetIs width sheet kept cs = sheet ≡ record {
  line_dots = width;
  items = kept ++ printed width cs;
  settings = settings cs;
  storage = storage cs;
  stops = stops cs;
  line = placed width cs;
}

-- The same for a page; its room is left open.
abbrev pub PageIs : ℕ → PageView → List Item → List Command → Type 0
PageIs width page kept cs = SheetIs width page.sheet kept cs

-- The page is what some commands leave, on paper that held some items, in lines of some width.
pub record IsReached (page : PageView) : Type 0 where
  pub line_dots : ℕ
  pub line_in_range : IsTrue (is_line_width line_dots)
  pub kept : List Item
  pub commands : List Command
  pub in_range : AreCommands commands
  pub page_is : PageIs line_dots page kept commands
