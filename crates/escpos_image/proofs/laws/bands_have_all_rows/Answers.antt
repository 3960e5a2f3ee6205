use Rattle.escpos_image.proofs.PackedRows.{all_bands}
use Rattle.escpos_image.proofs.laws.bands_have_all_rows.Goals as goal

pub returns-clause-all : goal.returns-clause-all
returns-clause-all c = all_bands
