use Rattle.escpos_host.proofs.Earlier.{earlier_hears, earlier_sound, ends_shifted, last_shifted}
use Rattle.escpos_host.proofs.laws.earlier_records.Goals as goal

pub returns-clause-heard : goal.returns-clause-heard
returns-clause-heard c = earlier_hears

pub returns-clause-last : goal.returns-clause-last
returns-clause-last c = last_shifted

pub returns-clause-ends : goal.returns-clause-ends
returns-clause-ends c = ends_shifted

pub returns-clause-sound : goal.returns-clause-sound
returns-clause-sound c = earlier_sound
