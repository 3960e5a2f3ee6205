use Rattle.std.proofs.Common.{append_assoc}
use Rattle.escpos_picture.specs.QrItems.{qr_group}
use Rattle.escpos_picture.proofs.qr.append_group.Goals as goal

pub returns-clause-kept : goal.returns-clause-kept
unfolding qr_group
returns-clause-kept c =
    rw (c.extend-2.ensures.kept, c.append_place.ensures.kept, c.extend.ensures.kept, c.indent.ensures.value) simp append_assoc
