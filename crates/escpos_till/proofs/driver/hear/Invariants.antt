-- What is heard of the rest is heard of all; each time some bytes are taken, or the machine talks no more.
use Rattle.std.proofs.Common.{ℕ, List, length, drop, ◌+◌, ◌*◌, ◌-◌, ◌≤◌}
use Rattle.escpos_till.specs.Driver.{HearsAll}
use Rattle.escpos_till.specs.Machine.{MachineView}
use Rattle.escpos_till.proofs.DriverLemmas.{is_talking}
use Rattle.escpos_till.proofs.driver.hear.Given as goal

abbrev pub invariant-loop-heard : goal.invariant-loop-heard
invariant-loop-heard l = record {
  goes_on : (counts : List ℕ) (after : MachineView) → HearsAll l.machine (drop l.heard l.bytes) counts after → (all : List ℕ) × HearsAll l.fn.machine l.bytes all after;
  within : l.heard ≤ length l.bytes;
}

abbrev pub decreases-loop-heard : goal.decreases-loop-heard
decreases-loop-heard l = 2 * (length l.bytes - l.heard) + is_talking l.machine.stage
