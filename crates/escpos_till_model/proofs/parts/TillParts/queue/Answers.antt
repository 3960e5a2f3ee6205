use Rattle.escpos_till_model.proofs.TillHappens.{called_in}
use Rattle.escpos_till_model.proofs.parts.TillParts.queue.Goals as goal

pub returns-in-Err-clause-refused : goal.returns-in-Err-clause-refused
returns-in-Err-clause-refused c =
    let same = c.in-Err.ensures.refused.1 in
    called_in _ c.args.self.now _ c.in-Some.machine c.queue.new.self c.self.view_is c.in-Some.is same c.is_sound.ensures.host same.host

pub returns-clause-happened : goal.returns-clause-happened
returns-clause-happened c =
    let goes = c.in_default-queue.ensures.queues in
    called_in _ c.args.self.now _ c.in-Some.machine c.queue.new.self c.self.view_is c.in-Some.is goes c.is_sound-2.ensures.host goes.host
