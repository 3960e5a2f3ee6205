-- That of the tries that were looked at.
use Rattle.std.proofs.Common.{◌≡◌, ◌-◌, ◌^◌, min, take}
use Rattle.escpos_till.specs.Tries.{end_of_tries}
use Rattle.escpos_till.proofs.tries.end_of_tries.Given as goal

abbrev pub invariant-loop-one : goal.invariant-loop-one
invariant-loop-one l = l.end ≡ min (end_of_tries (take l.one-index l.tries) l.number) (2 ^ 32 - 1)
