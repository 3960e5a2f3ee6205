use Rattle.std.proofs.Common.{◌≤◌, ◌-◌, take, length}
use Rattle.escpos_printer.proofs.TextTaken.{Prints}
use Rattle.escpos_printer.proofs.printer.print_text.Given as goal

-- the characters so far were printed
abbrev pub invariant-loop-printed : goal.invariant-loop-printed
invariant-loop-printed l = record {
  inside : l.printed ≤ length l.text;
  prints : Prints l.fn.page.sheet (take l.printed l.text) l.page.sheet;
}

abbrev pub decreases-loop-printed : goal.decreases-loop-printed
decreases-loop-printed l = length l.text - l.printed
