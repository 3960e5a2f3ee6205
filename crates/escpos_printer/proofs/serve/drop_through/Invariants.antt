-- what is to be dropped of the answers that are left leaves what it leaves of all
use Rattle.std.proofs.Common.{◌≡◌, length}
use Rattle.escpos_printer.specs.Serves.{after_byte}
use Rattle.escpos_printer.proofs.serve.drop_through.Given as goal

abbrev pub invariant-loop-answer : goal.invariant-loop-answer
invariant-loop-answer l = record {
  later : after_byte l.printer.waiting l.at ≡ after_byte l.fn.printer.waiting l.initial.at;
  sheet : l.printer.sheet ≡ l.fn.printer.sheet;
  half : l.printer.half ≡ l.fn.printer.half;
  condition : l.printer.condition ≡ l.fn.printer.condition;
  automatic : l.printer.automatic ≡ l.fn.printer.automatic;
}

abbrev pub decreases-loop-answer : goal.decreases-loop-answer
decreases-loop-answer l = length l.printer.waiting
