-- Neither is there.
use Rattle.escpos_arguments.proofs.options.has_no_options.Goals as goal

pub returns-then-has_no_width : goal.returns-then-has_no_width
returns-then-has_no_width c = (λ h. (c.has_no_width.ensures.0 c.if-has_no_width.true, c.has_no_replacement.ensures.0 h), λ both. c.has_no_replacement.ensures.1 both.1)
