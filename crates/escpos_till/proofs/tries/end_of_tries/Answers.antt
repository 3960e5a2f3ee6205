-- One after another: of those with the number the last one counts.
use Rattle.std.proofs.Common.{sym, ◌∙◌, arith}
use Rattle.escpos_till.proofs.TryLemmas.{end_next, end_stays}
use Rattle.escpos_till.proofs.tries.end_of_tries.Goals as goal
use Rattle.escpos_till.proofs.tries.end_of_tries.Goals.{then-eq, else-eq}

pub loop-one-preserved : goal.loop-one-preserved
loop-one-preserved c = elim c.if-eq.branch [
  | then-eq w ↦
      let last = end_next c.args.tries.now c.loop-one.one-index c.one-item.result c.args.number c.loop-one-test.true c.one-item.is (sym c.eq.ensures ∙ w.if-eq.true) in
      omega (arith, w.end-is, w.saturating_add-end.ensures, last)
  | else-eq w ↦
      let same = end_stays c.args.tries.now c.loop-one.one-index c.one-item.result c.args.number c.loop-one-test.true c.one-item.is (sym c.eq.ensures ∙ w.if-eq.false) in
      omega (arith, w.end-is, c.loop-one.invariant, same)
]
