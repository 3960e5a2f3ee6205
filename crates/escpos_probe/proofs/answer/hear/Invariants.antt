use Rattle.std.proofs.Common.{◌≡◌, ◌-◌, ◌<◌, ◌≤◌, ℕ, false, length, take}
use Rattle.std.specs.Io.KnownBytes.{Consumes}
use Rattle.escpos_probe.specs.Forms.{is_whole}
use Rattle.escpos_probe.proofs.answer.hear.Given as goal

-- what was heard so far was whole at no earlier place
abbrev pub invariant-loop-answer : goal.invariant-loop-answer
invariant-loop-answer g l = record {
  room : length l.piece ≡ 1;
  heard : Consumes (g.R.ByteIn.to_come l.fn.reader) (g.R.ByteIn.to_come l.reader) l.answer;
  first : (n : ℕ) → n < length l.answer → is_whole l.form (take n l.answer) ≡ false;
  within : length l.answer ≤ 96;
}

abbrev pub decreases-loop-answer : goal.decreases-loop-answer
decreases-loop-answer g l = 96 - length l.answer
