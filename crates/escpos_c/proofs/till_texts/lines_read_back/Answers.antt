use Rattle.escpos_c.proofs.TillTextLemmas.{given_back, never_at_fault, one_reading}
use Rattle.escpos_c.proofs.till_texts.lines_read_back.Goals as goal

pub returns-clause-one_reading : goal.returns-clause-one_reading
returns-clause-one_reading c = one_reading

pub returns-clause-given_back : goal.returns-clause-given_back
returns-clause-given_back c = given_back

pub returns-clause-never_at_fault : goal.returns-clause-never_at_fault
returns-clause-never_at_fault c = never_at_fault
