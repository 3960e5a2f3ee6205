use Rattle.escpos_image.proofs.PackedRows.{dot_is_bit}
use Rattle.escpos_image.proofs.laws.dots_are_bits.Goals as goal

pub returns : goal.returns
returns c = dot_is_bit
