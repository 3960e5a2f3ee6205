use Rattle.std.proofs.Common.{inl, inr}
use Rattle.escpos_command.proofs.Readings.{outcome, read, refused, one_reading, one_fault, never_both}
use Rattle.escpos_command.proofs.laws.one_reading.Goals as goal

pub returns-clause-read_or_refused : goal.returns-clause-read_or_refused
returns-clause-read_or_refused c = λ bs.
    elim (outcome bs) [
      | read cs rest h ↦ inl (cs, rest, h)
      | refused cs rest k why h ↦ inr (cs, rest, k, why, h)
    ]

pub returns-clause-one_reading : goal.returns-clause-one_reading
returns-clause-one_reading c = one_reading

pub returns-clause-one_fault : goal.returns-clause-one_fault
returns-clause-one_fault c = one_fault

pub returns-clause-not_both : goal.returns-clause-not_both
returns-clause-not_both c = never_both
