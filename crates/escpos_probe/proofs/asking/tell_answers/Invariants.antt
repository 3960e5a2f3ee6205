use Rattle.std.proofs.Common.{IsTrue}
use Rattle.escpos_probe.proofs.asking.tell_answers.Given as goal

-- no failure of the output is hidden
abbrev pub invariant-loop-question : goal.invariant-loop-question
invariant-loop-question g l = ¬ IsTrue (g.W.ByteOut.failed l.fn.output) → ¬ IsTrue (g.W.ByteOut.failed l.output)
