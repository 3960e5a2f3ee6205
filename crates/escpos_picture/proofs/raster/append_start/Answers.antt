use Rattle.std.proofs.Common.{append_assoc}
use Rattle.escpos_picture.specs.Groups.{raster_start}
use Rattle.escpos_picture.proofs.raster.append_start.Goals as goal

pub returns-clause-kept : goal.returns-clause-kept
unfolding raster_start
returns-clause-kept c =
    rw (c.append_scale.ensures.kept, c.append_place.ensures.kept, c.extend.ensures.kept, c.indent.ensures.value, c.across.ensures.value, c.from.ensures) simp append_assoc
