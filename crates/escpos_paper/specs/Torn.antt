-- Paper that is torn off while more is printed: sheets without their items, and with items above their own.
use Rattle.std.specs.Prelude.{ℕ, List, [], ◌++◌}
use Rattle.escpos_command.specs.declared.command.Command.{Command}
use Rattle.escpos_paper.specs.declared.item.Item.{Item}
use Rattle.escpos_paper.specs.Page.{Sheet, SheetIs, PageView}

-- A sheet whose items are all torn off. All else stays.
abbrev pub bare : Sheet → Sheet
bare sheet = record sheet { items = [] }

-- A sheet with these items above its own.
abbrev pub below : List Item → Sheet → Sheet
below gone sheet = record sheet { items = gone ++ sheet.items }

-- The page is what these commands leave, from power-on settings and an empty line, in lines of this width, after the items `gone` were torn off: they
-- and those that are still there are what the commands print.
abbrev pub TornIs : ℕ → PageView → List Item → List Command → Type 0
TornIs width page gone cs = SheetIs width (below gone page.sheet) [] cs
