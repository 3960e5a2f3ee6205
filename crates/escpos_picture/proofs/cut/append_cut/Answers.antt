use Rattle.std.proofs.Common.{append_assoc}
use Rattle.escpos_picture.proofs.cut.append_cut.Goals as goal

pub returns-clause-kept : goal.returns-clause-kept
returns-clause-kept c =
    rw (c.extend-3.ensures.kept, c.append_cut_line.ensures.kept, c.extend-2.ensures.kept, c.append_quarters.ensures.kept, c.extend.ensures.kept, c.cut_place.ensures.value) simp append_assoc
