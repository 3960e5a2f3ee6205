use Rattle.std.proofs.Common.{refl}
use Rattle.escpos_link.specs.declared.event.Event.TheVariants as line
use Rattle.escpos_till_model.proofs.TillWorlds.{fed_in, goes_in}
use Rattle.escpos_till_model.proofs.parts.TillParts.feed.Goals as goal

pub returns-in-Err-clause-refused : goal.returns-in-Err-clause-refused
returns-in-Err-clause-refused c = fed_in c.args.self.now _ c.args.most _ c.deliver.new.self c.self.view_is c.in-Err.ensures.refused

pub returns-clause-happened : goal.returns-clause-happened
returns-clause-happened c = goes_in (line.Deliver c.args.most) c.args.self.now _ c.deliver.new.self _ c.self.view_is refl c.in_default.ensures.happened
