use Rattle.escpos_text.proofs.TextLaws.{is_read_back, one_each, same_text}
use Rattle.escpos_text.proofs.laws.read_back.Goals as goal

pub returns-clause-read : goal.returns-clause-read
returns-clause-read c = is_read_back

pub returns-clause-one_each : goal.returns-clause-one_each
returns-clause-one_each c = one_each

pub returns-clause-same : goal.returns-clause-same
returns-clause-same c = same_text
