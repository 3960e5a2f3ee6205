-- The happenings that are left haven't come, and the others have.
use Rattle.std.proofs.Common.{length}
use Rattle.escpos_till_model.proofs.TillWorlds.{SoFar}
use Rattle.escpos_till_model.proofs.till.Till.run.Given as goal

abbrev pub invariant-loop-event : goal.invariant-loop-event
invariant-loop-event l = record { so_far : SoFar l.fn.events.items l.left.items l.fn.self l.self }

abbrev pub decreases-loop-event : goal.decreases-loop-event
decreases-loop-event l = length l.left.items
