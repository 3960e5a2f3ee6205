use Rattle.std.proofs.Common.{inl, refl}
use Rattle.escpos_link.specs.declared.event.Event.TheVariants as line
use Rattle.escpos_till_model.proofs.TillWorlds.{goes_in, handed_in}
use Rattle.escpos_till_model.proofs.parts.TillParts.hand_over.Goals as goal

pub returns-in-Err-clause-refused : goal.returns-in-Err-clause-refused
returns-in-Err-clause-refused c = inl (handed_in c.args.self.now _ _ c.hand_over.new.self c.self.view_is c.in-Err.ensures.refused)

pub returns-clause-happened : goal.returns-clause-happened
returns-clause-happened c = goes_in line.HandOver c.args.self.now _ c.hand_over.new.self _ c.self.view_is refl c.in_default.ensures.happened
