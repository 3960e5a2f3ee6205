use Rattle.escpos_image.proofs.Means.{scaled_keeps_range}
use Rattle.escpos_image.proofs.laws.scaling_keeps_the_range.Goals as goal

pub returns : goal.returns
returns c = scaled_keeps_range
