use Rattle.std.proofs.Common.{append_assoc}
use Rattle.escpos_picture.specs.BarItems.{bars_group}
use Rattle.escpos_picture.proofs.bars.append_group.Goals as goal

pub returns-clause-kept : goal.returns-clause-kept
unfolding bars_group
returns-clause-kept c =
    rw (c.extend-2.ensures.kept, c.append_place.ensures.kept, c.extend.ensures.kept, c.indent.ensures.value) simp append_assoc
