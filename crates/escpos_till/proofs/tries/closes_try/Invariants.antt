-- None of those that were looked at is it.
use Rattle.std.proofs.Common.{take}
use Rattle.escpos_till.specs.Tries.{ClosesTry}
use Rattle.escpos_till.proofs.tries.closes_try.Given as goal

abbrev pub invariant-loop-one : goal.invariant-loop-one
invariant-loop-one l = ClosesTry (take l.one-index l.tries) l.first l.end l.number l.id → ⊥
