-- One key more is said.
use Rattle.std.proofs.Common.{ap, sym, ◌∙◌, subst}
use Rattle.escpos_till.specs.Renewing.{SaysNothing}
use Rattle.escpos_till.proofs.RenewLemmas.{says_earlier}
use Rattle.escpos_till.proofs.renewing.beginning.Goals as goal
use Rattle.escpos_till.proofs.renewing.beginning.Goals.{then-is_over_and_kept+in_ok-push-2, else-is_over_and_kept}

pub loop-place-preserved : goal.loop-place-preserved
loop-place-preserved c = elim c.if-is_over_and_kept.branch [
  | then-is_over_and_kept+in_ok-push-2 w ↦
      subst (SaysNothing c.args.last) (sym (ap (λ v. v.items) w.new-is ∙ w.in_ok-push-2.ensures.items))
      (says_earlier c.args.last c.loop-place.new.items c.at-number.result.1 w.copy.result c.loop-place.invariant)
  | else-is_over_and_kept w ↦ subst (SaysNothing c.args.last) (sym (ap (λ v. v.items) w.new-is)) c.loop-place.invariant
]
