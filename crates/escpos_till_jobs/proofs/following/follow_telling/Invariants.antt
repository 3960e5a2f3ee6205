-- What was done so far, and so much as may still be done.
use Rattle.escpos_till.specs.Surroundings.{Did}
use Rattle.escpos_till_jobs.specs.Outputs.{output_of}
use Rattle.escpos_till_jobs.proofs.Telling.{Following}
use Rattle.escpos_till_jobs.proofs.following.follow_telling.Given as goal

abbrev pub invariant-loop-left : goal.invariant-loop-left
invariant-loop-left g l = record {
  far : Following (Did g.S.Store.faithful g.S.Store.holds g.S.Store.leaves g.S.Store.says g.L.PrinterLine.did) l.fn.machine l.fn.around
      (output_of (g.W.ByteOut.written l.fn.output) (g.W.ByteOut.failed l.fn.output)) l.told l.machine l.around (output_of (g.W.ByteOut.written l.output) (g.W.ByteOut.failed l.output)) l.left;
}

abbrev pub decreases-loop-left : goal.decreases-loop-left
decreases-loop-left g l = l.left
