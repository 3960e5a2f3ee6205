use Rattle.std.proofs.Common.{refl}
use Rattle.escpos_link.specs.declared.event.Event.TheVariants as line
use Rattle.escpos_link.specs.declared.event.Note.TheVariants as note
use Rattle.escpos_till_model.proofs.TillWorlds.{goes_in}
use Rattle.escpos_till_model.proofs.parts.TillParts.printer_leaves.Goals as goal

pub returns-clause-happened : goal.returns-clause-happened
returns-clause-happened c = goes_in line.PrinterLeaves c.args.self.now _ c.printer_leaves.new.self note.Done c.self.view_is refl c.printer_leaves.ensures.happened
