use Rattle.std.proofs.Common.{[], arith}
use Rattle.escpos_barcode.specs.Tables.{set_a, right_digits}
use Rattle.escpos_barcode.proofs.Rows.{row_at, digit_range}
use Rattle.escpos_barcode.proofs.tables.right_digit.Goals as goal

pub returns-clause-row : goal.returns-clause-row
unfolding set_a right_digits
returns-clause-row c = let d = digit_range c.args.digit c.requires in rw c.from.ensures (row_at set_a 0x30 c.args.digit [] d.0 (omega arith))
