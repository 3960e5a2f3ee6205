-- What was heard so far are events that ended nothing, and whatever is heard from now on was heard after them.
use Rattle.std.proofs.Common.{◌-◌, length}
use Rattle.escpos_link.proofs.HeardInTurn.{SoFar}
use Rattle.escpos_link.proofs.line.hear_all.Given as goal

abbrev pub invariant-loop-event : goal.invariant-loop-event
invariant-loop-event l = SoFar l.fn.host l.bytes l.consumed l.last l.host

abbrev pub decreases-loop-event : goal.decreases-loop-event
decreases-loop-event l = length l.bytes - l.consumed
