-- One entry more is carried over, or left out.
use Rattle.std.proofs.Common.{◌+◌, ap, sym, ◌∙◌, subst, take, arith}
use Rattle.escpos_till.specs.Renewing.{Carried}
use Rattle.escpos_till.proofs.RenewLemmas.{carried_next, carried_none, skip_next, skipped_next}
use Rattle.escpos_till.proofs.renewing.carry.Goals as goal
use Rattle.escpos_till.proofs.renewing.carry.Goals.{then-is_carried+in_ok-push_key+in_ok-copy+in_ok-push, else-is_carried}

pub loop-at-init : goal.loop-at-init
loop-at-init c = record { skip = omega arith; carried = carried_none c.args.last c.args.first c.args.new.now.items c.requires.begins }

pub loop-at-preserved : goal.loop-at-preserved
loop-at-preserved c =
    let i = c.loop-at.at in
    let es = c.args.entries.now in
    let e = c.index-entries-at.result in
    let so = c.loop-at.invariant in
    record {
      skip = skip_next c.args.last c.args.first c.loop-at.skip c.skip_after-skip.result i es e c.loop-at-test.true c.index-entries-at.is so.skip c.skip_after-skip.ensures;
      carried = elim c.if-is_carried.branch [
        | then-is_carried+in_ok-push_key+in_ok-copy+in_ok-push w ↦
            carried_next c.args.last c.args.first c.loop-at.skip i es c.loop-at.new.items w.push_key.new.new.items c.if-is_carried.new.items e w.in_ok-copy.field-0 c.loop-at-test.true
            c.index-entries-at.is c.requires.later (sym c.is_carried.ensures ∙ w.if-is_carried.true) so.skip w.in_ok-push_key.ensures w.in_ok-copy.ensures
            (ap (λ v. v.items) w.new-is ∙ w.in_ok-push.ensures.items) so.carried
        | else-is_carried w ↦
            subst (Carried c.args.last c.args.first (take (i + 1) es)) (sym (ap (λ v. v.items) w.new-is))
            (skipped_next c.args.last c.args.first c.loop-at.skip i es c.loop-at.new.items e c.loop-at-test.true c.index-entries-at.is c.requires.later
            (sym c.is_carried.ensures ∙ w.if-is_carried.false) so.skip so.carried)
      ];
    }
