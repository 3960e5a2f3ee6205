use Rattle.std.proofs.Common.{[], arith}
use Rattle.escpos_barcode.specs.Tables.{itf_rows, itf_digits}
use Rattle.escpos_barcode.proofs.Rows.{row_at, digit_range}
use Rattle.escpos_barcode.proofs.tables.itf_digit.Goals as goal

pub returns-clause-row : goal.returns-clause-row
unfolding itf_rows itf_digits
returns-clause-row c = let d = digit_range c.args.digit c.requires in rw c.from.ensures (row_at itf_rows 0x30 c.args.digit [] d.0 (omega arith))
