use Rattle.std.proofs.Common.{append_assoc}
use Rattle.escpos_picture.specs.Groups.{scale_text}
use Rattle.escpos_picture.proofs.raster.append_scale.Goals as goal

pub returns-clause-kept : goal.returns-clause-kept
unfolding scale_text
returns-clause-kept c =
    rw (c.append_between-2.ensures.kept, c.append_between.ensures.kept, c.across.ensures.value, c.downwards.ensures.value) simp append_assoc
