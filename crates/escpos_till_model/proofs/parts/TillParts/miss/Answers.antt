use Rattle.std.proofs.Common.{◌∙◌, ap}
use Rattle.escpos_till_model.proofs.TillHappens.{called_in, missed_host}
use Rattle.escpos_till_model.proofs.parts.TillParts.miss.Goals as goal

pub returns-clause-happened : goal.returns-clause-happened
returns-clause-happened c =
    let same = c.connected.ensures.not_connected (λ e. cc e) in
    called_in _ c.args.self.now _ c.in-Some.machine c.connected.new.self c.self.view_is c.in-Some.is same c.is_sound.ensures.host (ap (λ m. m.host) same ∙ missed_host _ _)
