use Rattle.std.proofs.Common.{◌≤◌, ◌-◌, ◌*◌, take, length, IsTrue}
use Rattle.escpos_printer.proofs.Serving.{Passed}
use Rattle.escpos_printer.proofs.serve.serve_piece.Given as goal

-- the bytes so far ran, and all answers to them went out
abbrev pub invariant-loop-count : goal.invariant-loop-count
invariant-loop-count g l = record {
  inside : l.consumed ≤ length l.piece;
  passed : Passed l.fn.printer (take l.consumed l.piece) (g.W.ByteOut.written l.fn.writer) (g.W.ByteOut.written l.writer) l.written l.printer;
  few : l.written ≤ 116 * l.consumed;
  not_failed : ¬ IsTrue (g.W.ByteOut.failed l.fn.writer) → ¬ IsTrue (g.W.ByteOut.failed l.writer);
}

abbrev pub decreases-loop-count : goal.decreases-loop-count
decreases-loop-count g l = length l.piece - l.consumed
