use Rattle.std.proofs.Common.{refl}
use Rattle.escpos_link.specs.declared.event.Event.TheVariants as line
use Rattle.escpos_link.specs.declared.event.Note.TheVariants as note
use Rattle.escpos_till_model.proofs.TillWorlds.{goes_in}
use Rattle.escpos_till_model.proofs.parts.TillParts.set_condition.Goals as goal

pub returns-clause-happened : goal.returns-clause-happened
returns-clause-happened c = goes_in (line.SetCondition c.args.condition) c.args.self.now _ c.set_condition.new.self note.Done c.self.view_is refl c.set_condition.ensures
