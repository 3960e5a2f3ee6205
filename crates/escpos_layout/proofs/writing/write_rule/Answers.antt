use Rattle.std.proofs.Common.{[], ◌∷◌}
use Rattle.escpos_layout.specs.Layouts.{rule}
use Rattle.escpos_layout.proofs.InRange.{lines_in_range}
use Rattle.escpos_layout.proofs.writing.write_rule.Goals as goal

pub returns-then-is_err-clause-in_range : goal.returns-then-is_err-clause-in_range
returns-then-is_err-clause-in_range c = λ commands h.
    lines_in_range c.spelled.ensures.in_range c.args.encoding.now (rule c.args.columns c.args.character ∷ []) commands h c.tables.ensures.range

pub returns-else-is_err-clause-in_range : goal.returns-else-is_err-clause-in_range
returns-else-is_err-clause-in_range c = λ commands h.
    lines_in_range c.spelled.ensures.in_range c.args.encoding.now (rule c.args.columns c.args.character ∷ []) commands h c.tables.ensures.range
