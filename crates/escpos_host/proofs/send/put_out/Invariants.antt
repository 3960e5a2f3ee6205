use Rattle.std.proofs.Common.{◌≡◌, ◌++◌, List, ℕ, length, IsTrue}
use Rattle.std.specs.Io.KnownBytes.{Appends}
use Rattle.escpos_host.specs.Awaits.{with_out}
use Rattle.escpos_host.proofs.send.put_out.Given as goal

-- what was taken out went out
abbrev pub invariant-loop-piece : goal.invariant-loop-piece
invariant-loop-piece g l = record {
  room : length l.piece ≡ 512;
  so_far : (out : List ℕ) × Appends (g.W.ByteOut.written l.fn.writer) (g.W.ByteOut.written l.writer) out × (l.fn.host.out ≡ out ++ l.host.out);
  same : l.host ≡ with_out l.fn.host l.host.out;
  not_failed : ¬ IsTrue (g.W.ByteOut.failed l.fn.writer) → ¬ IsTrue (g.W.ByteOut.failed l.writer);
}

abbrev pub decreases-loop-piece : goal.decreases-loop-piece
decreases-loop-piece g l = length l.host.out
