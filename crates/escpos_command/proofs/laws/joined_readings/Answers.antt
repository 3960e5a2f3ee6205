use Rattle.escpos_command.proofs.Readings.{joined, fault_joined, fault_of_front, cut}
use Rattle.escpos_command.proofs.laws.joined_readings.Goals as goal

pub returns-clause-reading : goal.returns-clause-reading
returns-clause-reading c = joined

pub returns-clause-fault : goal.returns-clause-fault
returns-clause-fault c = fault_joined

pub returns-clause-first_fault : goal.returns-clause-first_fault
returns-clause-first_fault c = fault_of_front

pub returns-clause-cut : goal.returns-clause-cut
returns-clause-cut c = cut
