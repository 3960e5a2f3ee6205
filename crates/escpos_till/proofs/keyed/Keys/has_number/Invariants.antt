-- None of those that were looked at has the number.
use Rattle.std.proofs.Common.{take}
use Rattle.escpos_till.specs.Keyed.{ListsNumber}
use Rattle.escpos_till.proofs.keyed.Keys.has_number.Given as goal

abbrev pub invariant-loop-place : goal.invariant-loop-place
invariant-loop-place l = ListsNumber (take l.place l.self.items) l.number → ⊥
