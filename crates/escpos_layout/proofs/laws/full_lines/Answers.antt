use Rattle.std.proofs.Common.{◌∙◌}
use Rattle.escpos_paper.specs.Styles.{style}
use Rattle.escpos_layout.proofs.CellsOfText.{ends_at_line_end}
use Rattle.escpos_layout.proofs.laws.full_lines.Goals as goal

pub returns-clause-row : goal.returns-clause-row
returns-clause-row c = λ width before row. ends_at_line_end width (style before) row (c.character_widths.ensures.least before, c.character_widths.ensures.least_height before)

pub returns-clause-line : goal.returns-clause-line
returns-clause-line c = λ width before encoding text whole row ends shows.
    ends_at_line_end width (style before) row (c.character_widths.ensures.least before, c.character_widths.ensures.least_height before) shows.in_style (shows.one_each ∙ ends.0)
