use Rattle.escpos_till_model.proofs.TillWorlds.{come_by}
use Rattle.escpos_till_model.proofs.till.Till.happen.Goals as goal

pub invariant_of-self : goal.invariant_of-self
invariant_of-self c = come_by c.self.inside.parts c.happen.new.self c.args.event c.happen.result c.self.invariant c.happen.ensures.happened c.happen.ensures.refused
