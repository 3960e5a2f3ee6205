use Rattle.std.proofs.Common.{◌∙◌, ap}
use Rattle.escpos_till_model.proofs.TillHappens.{called_in, hung_host}
use Rattle.escpos_till_model.proofs.parts.TillParts.hang_up.Goals as goal

pub returns-clause-happened : goal.returns-clause-happened
returns-clause-happened c =
    let same = c.hung_up.ensures in
    called_in _ c.args.self.now _ c.in-Some.machine c.hung_up.new.self c.self.view_is c.in-Some.is same c.is_sound.ensures.host (ap (λ m. m.host) same ∙ hung_host _ _)
