-- the answers that are gone went out, and the others wait
use Rattle.std.proofs.Common.{◌≡◌, ◌≤◌, ◌+◌, ◌*◌, length}
use Rattle.escpos_tcp_jobs.specs.Watched.{sink}
use Rattle.escpos_tcp_jobs.proofs.Watching.{SentSoFar}
use Rattle.escpos_tcp_jobs.proofs.watch.put_answers.Given as goal

abbrev pub invariant-loop-answer : goal.invariant-loop-answer
invariant-loop-answer g l = record {
  sent :
      SentSoFar (sink (g.A.ByteOut.written l.fn.writer) (g.A.ByteOut.failed l.fn.writer)) (sink (g.A.ByteOut.written l.writer) (g.A.ByteOut.failed l.writer)) l.count
      l.fn.printer.waiting l.printer.waiting;
  few : l.count + 7 * length l.printer.waiting ≤ 119;
  sheet : l.printer.sheet ≡ l.fn.printer.sheet;
  half : l.printer.half ≡ l.fn.printer.half;
  condition : l.printer.condition ≡ l.fn.printer.condition;
  automatic : l.printer.automatic ≡ l.fn.printer.automatic;
}

abbrev pub decreases-loop-answer : goal.decreases-loop-answer
decreases-loop-answer g l = length l.printer.waiting
