-- The links of a run.
use Rattle.std.proofs.Common.{◌-◌, [], arith}
use Rattle.escpos_till_model.proofs.LinesKept.{LineLaws}
use Rattle.escpos_till_model.proofs.Carrying.{all_carried, carried_some, none_carried}
use Rattle.escpos_till_model.proofs.LateLemmas.{are_near, has_tried}
use Rattle.escpos_till_model.proofs.Worlds.{begun, over_time}
use Rattle.escpos_till_model.proofs.laws.marks_are_used_once.Goals as goal

pub returns-clause-carries : goal.returns-clause-carries
returns-clause-carries c = λ w after happenings runs. carried_some w after happenings [] runs

pub returns-clause-apart : goal.returns-clause-apart
returns-clause-apart c = λ w after happenings links begins carries.
    let laws : LineLaws = record { trust = c.trust.ensures; promise = c.promise.ensures; apart = c.counted_marks.ensures.apart; every = c.every_line.ensures.kept; turn = c.in_turn.ensures; fitting = c.fitting.ensures } in
    (all_carried c.counted_marks.ensures.ids laws happenings w after _ [] links (begun laws w begins) (none_carried w begins.off) carries).apart

pub returns-clause-own : goal.returns-clause-own
returns-clause-own c = λ w after happenings links begins carries.
    let laws : LineLaws = record { trust = c.trust.ensures; promise = c.promise.ensures; apart = c.counted_marks.ensures.apart; every = c.every_line.ensures.kept; turn = c.in_turn.ensures; fitting = c.fitting.ensures } in
    (all_carried c.counted_marks.ensures.ids laws happenings w after _ [] links (begun laws w begins) (none_carried w begins.off) carries).own

pub returns-clause-ids : goal.returns-clause-ids
returns-clause-ids c = λ w after happenings number limit m n begins runs (before, following, split) past less within same.
    let laws : LineLaws = record { trust = c.trust.ensures; promise = c.promise.ensures; apart = c.counted_marks.ensures.apart; every = c.every_line.ensures.kept; turn = c.in_turn.ensures; fitting = c.fitting.ensures } in
    let ledger = (over_time laws w after happenings (begun laws w begins) runs).account.keeps.ledger in
    let near = are_near after.kept ledger number (limit - 1) (has_tried after.kept before following number limit split) in
    let one = c.counted_marks.ensures.apart m n (omega (arith, less)) (omega (arith, near, past, within)) same in
    omega (arith, one, less)
