use Rattle.std.proofs.Common.{IsTrue}
use Rattle.escpos_tcp_jobs.proofs.emulate.follow_as.Given as goal

-- every line so far was printed
abbrev pub invariant-loop-number : goal.invariant-loop-number
invariant-loop-number g l = ¬ IsTrue (g.W.ByteOut.failed l.fn.output) → ¬ IsTrue (g.W.ByteOut.failed l.output)
