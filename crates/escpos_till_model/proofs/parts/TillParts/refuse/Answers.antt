use Rattle.escpos_till_model.proofs.TillWorlds.{refuses_in}
use Rattle.escpos_till_model.proofs.parts.TillParts.refuse.Goals as goal

pub returns-clause-happened : goal.returns-clause-happened
returns-clause-happened c = refuses_in c.args.self.now _ c.in-Some.machine c.self.view_is c.in-Some.is c.is_sound.ensures.host
