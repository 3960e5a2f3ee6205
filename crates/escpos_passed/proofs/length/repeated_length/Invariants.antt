use Rattle.std.proofs.Common.{◌≡◌, ◌≤◌, ◌+◌, ◌-◌, ◌*◌}
use Rattle.std.specs.Option.{option_map}
use Rattle.escpos_passed.specs.Lengths.{repeated_length}
use Rattle.escpos_passed.proofs.length.repeated_length.Given as goal

-- the parts so far, and those that are left
abbrev pub invariant-loop-left : goal.invariant-loop-left
invariant-loop-left l = record {
  few : l.left ≤ l.times;
  sum : repeated_length l.counted l.times l.bytes ≡ option_map (λ m. l.at + m) (repeated_length l.counted l.left l.rest);
  small : l.at ≤ 1099511627776 * (l.times - l.left);
}

abbrev pub decreases-loop-left : goal.decreases-loop-left
decreases-loop-left l = l.left
