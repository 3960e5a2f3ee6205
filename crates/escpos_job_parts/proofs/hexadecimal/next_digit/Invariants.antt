use Rattle.std.proofs.Common.{◌≡◌, ◌-◌, ◌≤◌, length, drop}
use Rattle.escpos_job_parts.specs.Hexadecimal.{digits_of}
use Rattle.escpos_job_parts.proofs.hexadecimal.next_digit.Given as goal

-- the bytes so far are blanks
abbrev pub invariant-loop-at : goal.invariant-loop-at
invariant-loop-at l = record {
  blanks : digits_of (drop l.fn.from l.text) ≡ digits_of (drop l.at l.text);
  after : l.fn.from ≤ l.at;
  inside : l.at ≤ length l.text;
}

abbrev pub decreases-loop-at : goal.decreases-loop-at
decreases-loop-at l = length l.text - l.at
