use Rattle.std.proofs.Common.{append_assoc}
use Rattle.escpos_picture.specs.QrItems.{qr_frame}
use Rattle.escpos_picture.proofs.qr.append_frame.Goals as goal

pub returns-clause-kept : goal.returns-clause-kept
unfolding qr_frame
returns-clause-kept c =
    rw (c.append_between-3.ensures.kept, c.append_between-2.ensures.kept, c.append_number.ensures.kept, c.append_between.ensures.kept) simp append_assoc
