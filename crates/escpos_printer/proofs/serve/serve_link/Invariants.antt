use Rattle.std.proofs.Common.{◌≡◌, ◌≤◌, ◌+◌, ◌-◌, ◌*◌, length, IsTrue}
use Rattle.escpos_printer.proofs.Serving.{Reading}
use Rattle.escpos_printer.proofs.serve.serve_link.Given as goal

-- the bytes that were read ran, and all answers to them went out
abbrev pub invariant-loop-read : goal.invariant-loop-read
invariant-loop-read g l = record {
  reading :
      Reading l.fn.printer (g.R.ByteIn.to_come l.fn.reader) (g.R.ByteIn.to_come l.reader) (g.W.ByteOut.written l.fn.writer) (g.W.ByteOut.written l.writer) l.read l.written
      l.printer;
  most : l.most ≡ l.fn.max_bytes;
  within : l.read ≤ l.most;
  few : l.written ≤ 116 + 232 * l.read;
  room : length l.piece ≡ 512;
  pulls : g.R.ByteIn.pull_count l.reader ≤ g.R.ByteIn.pull_count l.fn.reader + l.read;
  reader_well : ¬ IsTrue (g.R.ByteIn.failed l.fn.reader) → ¬ IsTrue (g.R.ByteIn.failed l.reader);
  writer_well : ¬ IsTrue (g.W.ByteOut.failed l.fn.writer) → ¬ IsTrue (g.W.ByteOut.failed l.writer);
}

abbrev pub decreases-loop-read : goal.decreases-loop-read
decreases-loop-read g l = l.most - l.read
