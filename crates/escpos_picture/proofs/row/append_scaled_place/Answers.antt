use Rattle.std.proofs.Common.{append_assoc}
use Rattle.escpos_picture.proofs.row.append_scaled_place.Goals as goal

pub returns-clause-kept : goal.returns-clause-kept
returns-clause-kept c =
    rw (c.append_between.ensures.kept, c.append_small_number-2.ensures.kept, c.extend-2.ensures.kept, c.append_small_number.ensures.kept, c.extend.ensures.kept) simp append_assoc
