use Rattle.std.proofs.Common.{◌≡◌, ◌≢◌, [], take, true, false}
use Rattle.std.specs.List.{flat_map}
use Rattle.escpos_receipt.specs.EntryCommands.{commands_in}
use Rattle.escpos_receipt.specs.Whole.{EachMayFollow, HoldNoRealTime, has_text}
use Rattle.escpos_receipt.proofs.entries.are_whole.Given as goal

-- the commands of the entries so far may follow each other and hold no real-time command, and the flags say what they leave
abbrev pub invariant-loop-entry : goal.invariant-loop-entry
invariant-loop-entry l = record {
  each : EachMayFollow (flat_map commands_in (take l.entry-index l.entries));
  quiet : HoldNoRealTime (flat_map commands_in (take l.entry-index l.entries));
  flag : l.has_text ≡ has_text (flat_map commands_in (take l.entry-index l.entries));
  some : l.has_commands ≡ true → flat_map commands_in (take l.entry-index l.entries) ≢ [];
  none : l.has_commands ≡ false → flat_map commands_in (take l.entry-index l.entries) ≡ [];
}
