use Rattle.std.proofs.Common.{append_assoc}
use Rattle.escpos_picture.specs.QrItems.{qr_text}
use Rattle.escpos_picture.proofs.qr.append_text_tag.Goals as goal

pub returns-clause-kept : goal.returns-clause-kept
unfolding qr_text
returns-clause-kept c =
    rw (c.append_between-3.ensures.kept, c.append_between-2.ensures.kept, c.append_between.ensures.kept, c.min.ensures) simp append_assoc
