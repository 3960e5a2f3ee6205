use Rattle.std.proofs.Common.{[], arith}
use Rattle.escpos_barcode.specs.Tables.{upce_parity_rows, upce_parities}
use Rattle.escpos_barcode.proofs.Rows.{row_at, digit_range}
use Rattle.escpos_barcode.proofs.tables.upce_parities_of.Goals as goal

pub returns-clause-row : goal.returns-clause-row
unfolding upce_parity_rows upce_parities
returns-clause-row c = let d = digit_range c.args.digit c.requires in rw c.from.ensures (row_at upce_parity_rows 0x30 c.args.digit [] d.0 (omega arith))
