use Rattle.std.proofs.Common.{ℕ, ◌≤◌, ◌<◌, ◌-◌, length}
use Rattle.escpos_passed.specs.Finding.{IsNone}
use Rattle.escpos_passed.specs.Table.{row_at}
use Rattle.escpos_passed.proofs.finding.find_in.Given as goal

-- the rows so far have no such command
abbrev pub invariant-loop-at : goal.invariant-loop-at
invariant-loop-at l = record {
  inside : l.at ≤ length l.rows;
  none : (i : ℕ) → i < l.at → IsNone (row_at l.rows i) l.bytes;
}

abbrev pub decreases-loop-at : goal.decreases-loop-at
decreases-loop-at l = length l.rows - l.at
