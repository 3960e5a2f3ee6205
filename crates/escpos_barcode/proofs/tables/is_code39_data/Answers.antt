use Rattle.escpos_barcode.specs.Tables.{code39_data}
use Rattle.escpos_barcode.proofs.tables.is_code39_data.Goals as goal

pub returns : goal.returns
unfolding code39_data
returns c = c.has_symbol.ensures
