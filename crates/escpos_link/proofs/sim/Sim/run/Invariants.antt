-- The events that are left haven't happened, and the others have.
use Rattle.std.proofs.Common.{◌≡◌, length}
use Rattle.escpos_link.proofs.Running.{SoFar}
use Rattle.escpos_link.proofs.sim.Sim.run.Given as goal

abbrev pub invariant-loop-event : goal.invariant-loop-event
invariant-loop-event l = record {
  so_far : SoFar l.fn.self l.fn.events.items l.left.items l.self;
  width : l.self.printer.sheet.line_dots ≡ l.fn.self.printer.sheet.line_dots;
  count : l.count ≡ length l.fn.events.items;
}

abbrev pub decreases-loop-event : goal.decreases-loop-event
decreases-loop-event l = length l.left.items
