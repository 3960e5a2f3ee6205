use Rattle.escpos_passed.proofs.Outcomes.{ends}
use Rattle.escpos_passed.proofs.TokenLaws as laws
use Rattle.escpos_passed.proofs.laws.one_reading.Goals as goal

pub returns-clause-read_or_refused : goal.returns-clause-read_or_refused
returns-clause-read_or_refused c = ends

pub returns-clause-one_reading : goal.returns-clause-one_reading
returns-clause-one_reading c = laws.one_reading

pub returns-clause-one_fault : goal.returns-clause-one_fault
returns-clause-one_fault c = laws.one_fault_after

pub returns-clause-not_both : goal.returns-clause-not_both
returns-clause-not_both c = λ bs r f. laws.not_both bs r.0 f.0 r.1 f.1 f.2 r.2 f.3
