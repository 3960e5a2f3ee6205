use Rattle.escpos_layout.specs.Layouts.{pair}
use Rattle.escpos_layout.proofs.InRange.{lines_in_range}
use Rattle.escpos_layout.proofs.writing.write_pair.Goals as goal

pub returns-then-is_err-clause-in_range : goal.returns-then-is_err-clause-in_range
returns-then-is_err-clause-in_range c = λ commands h.
    lines_in_range c.spelled.ensures.in_range c.args.encoding.now (pair c.args.columns c.args.left.now c.args.right.now) commands h c.tables.ensures.range

pub returns-else-is_err-clause-in_range : goal.returns-else-is_err-clause-in_range
returns-else-is_err-clause-in_range c = λ commands h.
    lines_in_range c.spelled.ensures.in_range c.args.encoding.now (pair c.args.columns c.args.left.now c.args.right.now) commands h c.tables.ensures.range
