use Rattle.escpos_layout.proofs.OneWrapping.{is_wrapped, no_other}
use Rattle.escpos_layout.proofs.laws.one_wrapping.Goals as goal

pub returns-clause-is_one : goal.returns-clause-is_one
returns-clause-is_one c = is_wrapped

pub returns-clause-no_other : goal.returns-clause-no_other
returns-clause-no_other c = no_other
