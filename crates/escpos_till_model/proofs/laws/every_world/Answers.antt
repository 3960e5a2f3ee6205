use Rattle.escpos_till_model.proofs.LinesKept.{LineLaws}
use Rattle.escpos_till_model.proofs.Worlds.{begun, over_time}
use Rattle.escpos_till_model.proofs.laws.every_world.Goals as goal

pub returns : goal.returns
returns c = λ w after happenings begins runs.
    let laws : LineLaws = record { trust = c.trust.ensures; promise = c.promise.ensures; apart = c.counted_marks.ensures.apart; every = c.every_line.ensures.kept; turn = c.in_turn.ensures; fitting = c.fitting.ensures } in
    over_time laws w after happenings (begun laws w begins) runs
