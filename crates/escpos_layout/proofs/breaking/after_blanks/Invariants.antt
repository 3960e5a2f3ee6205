-- As many blanks are left as begin there, without those so far.
use Rattle.std.proofs.Common.{◌≡◌, ◌+◌, ◌-◌, ◌≤◌, length, drop}
use Rattle.std.specs.List.{prefix_len}
use Rattle.escpos_layout.specs.Wrapping.{is_blank}
use Rattle.escpos_layout.proofs.breaking.after_blanks.Given as goal

abbrev pub invariant-loop-at : goal.invariant-loop-at
invariant-loop-at l =
    (l.at ≤ length l.text) × (l.start + prefix_len is_blank (drop l.start l.text) ≡ l.at + prefix_len is_blank (drop l.at l.text))

abbrev pub decreases-loop-at : goal.decreases-loop-at
decreases-loop-at l = length l.text - l.at
