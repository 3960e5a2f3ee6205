-- So many receipts are recorded so far, and told, and no failure of the output is hidden.
use Rattle.std.specs.Prelude.{IsTrue}
use Rattle.escpos_till.specs.Surroundings.{Did}
use Rattle.escpos_till_jobs.specs.Outputs.{output_of}
use Rattle.escpos_till_jobs.proofs.Rounds.{SoFar}
use Rattle.escpos_till_jobs.proofs.deliver.deliver_waiting.Given as goal

abbrev pub invariant-loop : goal.invariant-loop
invariant-loop g l = record {
  so_far : SoFar (Did g.S.Store.faithful g.S.Store.holds g.S.Store.leaves g.S.Store.says g.L.PrinterLine.did) l.delivery l.fn.machine l.fn.around
      (output_of (g.W.ByteOut.written l.fn.output) (g.W.ByteOut.failed l.fn.output)) l.machine l.around (output_of (g.W.ByteOut.written l.output) (g.W.ByteOut.failed l.output)) l.counter;
  well : (¬ IsTrue (g.W.ByteOut.failed l.fn.output)) → ¬ IsTrue (g.W.ByteOut.failed l.output);
}
