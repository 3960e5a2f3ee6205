use Rattle.std.proofs.Common.{append_assoc, ◌∙◌}
use Rattle.escpos_picture.proofs.span.append_line_start.Goals as goal

pub returns-clause-kept : goal.returns-clause-kept
returns-clause-kept c = c.append_between.ensures.kept ∙ simp append_assoc
