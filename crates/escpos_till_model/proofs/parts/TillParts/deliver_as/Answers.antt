use Rattle.escpos_till_model.proofs.TillHappens.{called_in}
use Rattle.escpos_till_model.proofs.TillWorlds.{fits_by}
use Rattle.escpos_till_model.proofs.parts.TillParts.deliver_as.Goals as goal

pub returns-in-Err-clause-refused : goal.returns-in-Err-clause-refused
returns-in-Err-clause-refused c =
    let same = c.in-Err.ensures.refused.1 in
    called_in _ c.args.self.now _ c.in-Some.machine c.deliver.new.self c.self.view_is c.in-Some.is same c.is_sound.ensures.host same.host

pub returns-clause-happened : goal.returns-clause-happened
returns-clause-happened c =
    let goes = c.in_default-deliver.ensures.delivers in
    called_in _ c.args.self.now _ c.in-Some.machine c.deliver.new.self c.self.view_is c.in-Some.is (goes, fits_by c.fitting.ensures _ c.is_sound-2.ensures.receipt) c.is_sound-2.ensures.host
    goes.host
