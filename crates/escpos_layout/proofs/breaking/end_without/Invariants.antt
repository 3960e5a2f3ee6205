-- The characters so far are of that kind.
use Rattle.std.proofs.Common.{◌≡◌, ◌≤◌}
use Rattle.escpos_layout.specs.Wrapping.{end_without}
use Rattle.escpos_layout.proofs.breaking.end_without.Given as goal

abbrev pub invariant-loop-at : goal.invariant-loop-at
invariant-loop-at l = (l.at ≤ l.end) × (end_without l.blanks l.end l.text ≡ end_without l.blanks l.at l.text)

abbrev pub decreases-loop-at : goal.decreases-loop-at
decreases-loop-at l = l.at
