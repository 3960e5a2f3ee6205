use Rattle.escpos_passed.proofs.With as with
use Rattle.escpos_passed.proofs.laws.one_reading_with.Goals as goal

pub returns-clause-one_reading : goal.returns-clause-one_reading
returns-clause-one_reading c = with.one_reading_with

pub returns-clause-not_both : goal.returns-clause-not_both
returns-clause-not_both c = with.not_both_with

pub returns-clause-one_fault : goal.returns-clause-one_fault
returns-clause-one_fault c = with.one_fault_with

pub returns-clause-without_the_last : goal.returns-clause-without_the_last
returns-clause-without_the_last c = with.front_without
