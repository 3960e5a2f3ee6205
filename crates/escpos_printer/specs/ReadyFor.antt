-- When a printer can take some commands at once, for the law of whole commands.
use Rattle.std.specs.Prelude.{◌≡◌, ◌≤◌, List, [], ◌++◌, length}
use Rattle.std.specs.List.{AllByRecursion}
use Rattle.escpos_command.specs.declared.command.Command.{Command}
use Rattle.escpos_command.specs.CommandTable.{AreCommands}
use Rattle.escpos_printer.specs.Feeds.{PassesOffline, PrinterView}
use Rattle.escpos_printer.specs.Blocks.{most_waiting, others}
use Rattle.escpos_printer.specs.Replies.{replies}

-- The printer can take these commands now: it has no half command, it is online unless all of them are status requests, and
-- there is room for the answers to them.
pub record IsReadyFor (p : PrinterView) (cs : List Command) : Type 0 where
  pub none : p.half ≡ []
  pub commands : AreCommands cs
  pub passes : AllByRecursion (PassesOffline p.condition) cs
  pub room : length (others (p.waiting ++ replies p.condition cs)) ≤ most_waiting
