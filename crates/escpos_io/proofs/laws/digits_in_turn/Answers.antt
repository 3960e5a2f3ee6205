use Rattle.escpos_io.proofs.Digits.{digits_append, digits_count, no_digits}
use Rattle.escpos_io.proofs.laws.digits_in_turn.Goals as goal

pub returns-clause-joined : goal.returns-clause-joined
returns-clause-joined c = digits_append

pub returns-clause-none : goal.returns-clause-none
returns-clause-none c = no_digits

pub returns-clause-count : goal.returns-clause-count
returns-clause-count c = digits_count
