use Rattle.std.proofs.Common.{append_assoc}
use Rattle.escpos_picture.specs.BarItems.{box_text}
use Rattle.escpos_picture.proofs.bars.append_box_text.Goals as goal

pub returns-clause-kept : goal.returns-clause-kept
unfolding box_text
returns-clause-kept c =
    rw (c.append_between-3.ensures.kept, c.extend.ensures.kept, c.append_number.ensures.kept, c.append_between-2.ensures.kept, c.append_between.ensures.kept, c.from.ensures, c.dots.ensures.kept, c.min.ensures) simp append_assoc
