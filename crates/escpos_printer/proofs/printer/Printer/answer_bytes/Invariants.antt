-- the bytes of the answers so far, at most seven of each, and four of a block
use Rattle.std.proofs.Common.{◌≡◌, ◌≤◌, ◌+◌, ◌*◌, length, take}
use Rattle.escpos_printer.specs.Blocks.{blocks, others}
use Rattle.escpos_command.specs.Answers.{spell_answers}
use Rattle.escpos_printer.proofs.printer.Printer.answer_bytes.Given as goal

abbrev pub invariant-loop-at : goal.invariant-loop-at
invariant-loop-at l = record {
  spelled : l.bytes.items ≡ spell_answers (take l.at l.self.waiting);
  few : length l.bytes.items ≤ 7 * length (others (take l.at l.self.waiting)) + 4 * length (blocks (take l.at l.self.waiting));
}
