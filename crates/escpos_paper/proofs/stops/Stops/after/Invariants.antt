-- None of the stops so far stands to the right.
use Rattle.std.proofs.Common.{◌≡◌, drop}
use Rattle.escpos_paper.specs.Cells.{next_stop}
use Rattle.escpos_paper.proofs.stops.Stops.after.Given as goal

abbrev pub invariant-loop-stop : goal.invariant-loop-stop
invariant-loop-stop l = next_stop l.dot l.self ≡ next_stop l.dot (drop l.stop-index l.self)
