use Rattle.std.proofs.Common.{ap}
use Rattle.escpos_till_model.proofs.TillHappens.{called_in}
use Rattle.escpos_till_model.proofs.TillWorlds.{same_but}
use Rattle.escpos_till_model.proofs.parts.TillParts.cancel.Goals as goal

pub returns-in-Err-clause-refused : goal.returns-in-Err-clause-refused
returns-in-Err-clause-refused c =
    let same = c.in-Err.ensures.refused.1 in
    called_in _ c.args.self.now _ c.in-Some.machine c.cancel.new.self c.self.view_is c.in-Some.is (same_but _ _ same) c.is_sound.ensures.host (ap (λ m. m.host) same)

pub returns-clause-happened : goal.returns-clause-happened
returns-clause-happened c =
    let goes = c.in_default-cancel.ensures.cancels in
    called_in _ c.args.self.now _ c.in-Some.machine c.cancel.new.self c.self.view_is c.in-Some.is goes c.is_sound-2.ensures.host (ap (λ m. m.host) goes.after_is)
