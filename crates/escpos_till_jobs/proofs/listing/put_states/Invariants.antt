-- The lines of the receipts so far were given to the gather.
use Rattle.std.proofs.Common.{◌≡◌, ◌+◌, Ok, take}
use Rattle.escpos_io.specs.Giving.{IsGiven}
use Rattle.escpos_io.specs.Putting.{passage}
use Rattle.escpos_till_jobs.specs.Lines.{state_lines}
use Rattle.escpos_till_jobs.proofs.listing.put_states.Given as goal

abbrev pub invariant-loop-state : goal.invariant-loop-state
invariant-loop-state g l = record {
  place : l.place ≡ l.earlier + l.state-index;
  given : IsGiven (Ok tt) (passage (g.W.ByteOut.written l.fn.output) (g.W.ByteOut.written l.output) (g.W.ByteOut.failed l.fn.output) (g.W.ByteOut.failed l.output))
      l.fn.gather l.gather (state_lines (1 + l.earlier) (take l.state-index l.states));
}
