use Rattle.std.proofs.Common.{refl}
use Rattle.escpos_link.specs.declared.event.Event.TheVariants as line
use Rattle.escpos_link.specs.declared.event.Note.TheVariants as note
use Rattle.escpos_till_model.proofs.WireLines.{none_on, one_event, then_on}
use Rattle.escpos_till_model.proofs.wire_line.leave.Goals as goal

pub returns-clause-goes_on : goal.returns-clause-goes_on
returns-clause-goes_on c =
    then_on c.args.wire.now c.print.new.wire c.printer_leaves.new.self c.print.ensures
    (one_event line.PrinterLeaves c.print.new.wire c.printer_leaves.new.self note.Done refl c.printer_leaves.ensures.happened)

pub returns-clause-no_link : goal.returns-clause-no_link
returns-clause-no_link c = λ none. none_on c.args.wire.now c.printer_leaves.new.self (returns-clause-goes_on c) none
