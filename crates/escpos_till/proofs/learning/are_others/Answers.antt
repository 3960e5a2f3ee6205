-- One after another.
use Rattle.std.proofs.Common.{refl, subst}
use Rattle.std.specs.List.{AllByRecursion}
use Rattle.std.proofs.lemmas.List.{take_all}
use Rattle.escpos_till.specs.Learning.{IsOthers}
use Rattle.escpos_till.proofs.LearningLemmas.{others_longer}
use Rattle.escpos_till.proofs.learning.are_others.Goals as goal

pub loop-entry-preserved : goal.loop-entry-preserved
loop-entry-preserved c =
    others_longer c.args.entries.now c.loop-entry.entry-index c.entry-item.result c.loop-entry-test.true c.entry-item.is c.loop-entry.invariant (c.if-not-is_others.ensures.0 refl)

pub returns : goal.returns
returns c = (λ is. subst (AllByRecursion IsOthers) (take_all c.loop-entry.entry-index c.args.entries.now c.loop-entry-test.false) c.loop-entry.invariant, λ all. refl)
