-- So far things happened at the printer's end alone.
use Rattle.escpos_till_model.proofs.WireLines.{GoesOn}
use Rattle.escpos_till_model.proofs.wire_line.print.Given as goal

abbrev pub invariant-loop : goal.invariant-loop
invariant-loop l = GoesOn l.fn.wire l.wire
