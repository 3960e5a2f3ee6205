-- Each of the commands so far is in range and may follow those before it, and they hold no real-time command; the flag says whether they
-- leave text in the line.
use Rattle.std.proofs.Common.{◌≡◌, take}
use Rattle.escpos_command.specs.CommandTable.{AreCommands}
use Rattle.escpos_receipt.specs.Whole.{EachMayFollow, HoldNoRealTime, has_text}
use Rattle.escpos_receipt.proofs.receipt.fault_of.Given as goal

abbrev pub invariant-loop-at : goal.invariant-loop-at
invariant-loop-at l = record {
  commands : AreCommands (take l.at l.commands);
  each : EachMayFollow (take l.at l.commands);
  quiet : HoldNoRealTime (take l.at l.commands);
  flag : l.has_text ≡ has_text (take l.at l.commands);
}
