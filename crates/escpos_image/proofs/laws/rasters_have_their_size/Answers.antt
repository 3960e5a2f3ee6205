use Rattle.escpos_image.proofs.PackedRows.{length_rows}
use Rattle.escpos_image.proofs.laws.rasters_have_their_size.Goals as goal

pub returns-clause-whole : goal.returns-clause-whole
returns-clause-whole c = length_rows
