use Rattle.std.proofs.Common.{append_assoc}
use Rattle.escpos_picture.specs.BarItems.{box_frame}
use Rattle.escpos_picture.proofs.bars.append_box_frame.Goals as goal

pub returns-clause-kept : goal.returns-clause-kept
unfolding box_frame
returns-clause-kept c =
    rw (c.append_between-4.ensures.kept, c.append_between-3.ensures.kept, c.append_number.ensures.kept, c.append_between-2.ensures.kept, c.append_between.ensures.kept, c.from-line_dots.ensures, c.dots.ensures.kept) simp append_assoc
