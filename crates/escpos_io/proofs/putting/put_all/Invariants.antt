-- What was put so far is a prefix of the bytes; a failed call of `put` would have ended the loop.
use Rattle.std.proofs.Common.{length, ◌-◌, ◌≡◌, ◌<◌, ◌≤◌, take, IsTrue}
use Rattle.std.specs.Io.KnownBytes.{Appends}
use Rattle.escpos_io.proofs.putting.put_all.Given as goal

abbrev pub invariant-loop-written : goal.invariant-loop-written
invariant-loop-written g l = record {
  within : l.written ≤ length l.bytes;
  front : Appends (g.W.ByteOut.written l.initial.writer) (g.W.ByteOut.written l.writer) (take l.written l.bytes);
  not_failed : 0 < l.written → ¬ IsTrue (g.W.ByteOut.failed l.writer);
  untouched : l.written ≡ 0 → l.writer ≡ l.initial.writer;
  stays_failed : IsTrue (g.W.ByteOut.failed l.initial.writer) → l.written ≡ 0;
}

abbrev pub decreases-loop-written : goal.decreases-loop-written
decreases-loop-written g l = length l.bytes - l.written
