use Rattle.std.proofs.Common.{[], refl, sym, arith}
use Rattle.std.specs.List.{list_all}
use Rattle.escpos_barcode.specs.Tables.{code93_rows, code93_table}
use Rattle.escpos_barcode.specs.Pen.{is_element}
use Rattle.escpos_barcode.proofs.Rows.{row_from_zero, row_beyond, row_all}
use Rattle.escpos_barcode.proofs.tables.code93_pattern.Goals as goal

pub returns-then-place-lt48-clause-row : goal.returns-then-place-lt48-clause-row
unfolding code93_rows code93_table
returns-then-place-lt48-clause-row c =
    rw c.from-place.ensures (row_from_zero code93_rows c.args.value [] (omega arith))

pub returns-then-place-lt48-clause-elements : goal.returns-then-place-lt48-clause-elements
unfolding code93_rows code93_table
returns-then-place-lt48-clause-elements c =
    rw (c.from-place.ensures, row_from_zero code93_rows c.args.value [] (omega arith)) (row_all (list_all is_element) code93_table c.args.value refl refl)

pub returns-else-place-lt48-clause-row : goal.returns-else-place-lt48-clause-row
unfolding code93_rows code93_table
returns-else-place-lt48-clause-row c = sym (row_beyond code93_rows 0 c.args.value (omega arith) (omega arith))
