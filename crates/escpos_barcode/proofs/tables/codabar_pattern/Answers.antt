use Rattle.std.proofs.Common.{refl}
use Rattle.std.specs.List.{list_all}
use Rattle.escpos_barcode.specs.Tables.{codabar_table}
use Rattle.escpos_barcode.specs.Pen.{is_element}
use Rattle.escpos_barcode.proofs.Rows.{row_all}
use Rattle.escpos_barcode.proofs.tables.codabar_pattern.Goals as goal

pub returns-clause-row : goal.returns-clause-row
unfolding codabar_table
returns-clause-row c = c.pattern_of.ensures

pub returns-clause-elements : goal.returns-clause-elements
unfolding codabar_table
returns-clause-elements c = rw c.pattern_of.ensures (row_all (list_all is_element) codabar_table c.args.byte refl refl)
