-- Each Init that was left out at the end belongs to what closes the stream.
use Rattle.std.proofs.Common.{List, length}
use Rattle.escpos_command.specs.declared.command.Command.{Command}
use Rattle.escpos_stream.specs.Steps.{Kept, KeptSoFar}
use Rattle.escpos_stream.proofs.kept.Kept.end.Given as goal

abbrev pub invariant-loop-self : goal.invariant-loop-self
invariant-loop-self l = record {
  kept : (cs : List Command) → KeptSoFar cs l.fn.self.commands.items l.fn.self.places.items → Kept cs l.self.commands.items l.self.places.items;
}

abbrev pub decreases-loop-self : goal.decreases-loop-self
decreases-loop-self l = length l.self.commands.items
