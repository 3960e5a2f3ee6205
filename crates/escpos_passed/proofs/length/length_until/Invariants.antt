use Rattle.std.proofs.Common.{◌≡◌, ◌≤◌, ◌+◌, ◌-◌, length, drop}
use Rattle.std.specs.Option.{option_map}
use Rattle.escpos_passed.specs.Lengths.{length_until}
use Rattle.escpos_passed.proofs.length.length_until.Given as goal

-- what is still to be looked for in the bytes that are left
abbrev pub invariant-loop-left : goal.invariant-loop-left
invariant-loop-left l = record {
  inside : l.at ≤ length l.bytes;
  rest : length_until l.end l.times l.bytes ≡ option_map (λ m. l.at + m) (length_until l.end l.left (drop l.at l.bytes));
}

abbrev pub decreases-loop-left : goal.decreases-loop-left
decreases-loop-left l = length l.bytes - l.at
