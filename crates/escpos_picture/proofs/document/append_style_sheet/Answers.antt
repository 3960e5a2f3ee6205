use Rattle.std.proofs.Common.{append_assoc}
use Rattle.escpos_picture.specs.Document.{style_sheet}
use Rattle.escpos_picture.proofs.document.append_style_sheet.Goals as goal

pub returns-clause-kept : goal.returns-clause-kept
unfolding style_sheet
returns-clause-kept c = rw (c.append_between.ensures.kept, c.from.ensures, c.dots.ensures.kept) simp append_assoc
