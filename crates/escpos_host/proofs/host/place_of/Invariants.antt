-- None of the numbers so far has the id.
use Rattle.std.proofs.Common.{take}
use Rattle.escpos_host.specs.Kept.{HasIdAmong}
use Rattle.escpos_host.proofs.host.place_of.Given as goal

abbrev pub invariant-loop-place : goal.invariant-loop-place
invariant-loop-place l = record { none : HasIdAmong l.least (take l.place l.numbers) l.id → ⊥ }
