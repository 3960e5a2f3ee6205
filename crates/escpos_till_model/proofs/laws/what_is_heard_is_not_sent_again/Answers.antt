use Rattle.escpos_till_model.proofs.Again.{not_again}
use Rattle.escpos_till_model.proofs.LinesKept.{LineLaws}
use Rattle.escpos_till_model.proofs.Worlds.{begun, over_time}
use Rattle.escpos_till_model.proofs.laws.what_is_heard_is_not_sent_again.Goals as goal

pub returns : goal.returns
returns c = λ first w heard after before happenings most number begins runs hears later kept_so.
    let laws : LineLaws = record { trust = c.trust.ensures; promise = c.promise.ensures; apart = c.counted_marks.ensures.apart; every = c.every_line.ensures.kept; turn = c.in_turn.ensures; fitting = c.fitting.ensures } in
    not_again laws w heard after most number happenings (over_time laws first w before (begun laws first begins) runs) hears later kept_so
