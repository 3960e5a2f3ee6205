use Rattle.std.proofs.Common.{[], refl, sym, arith}
use Rattle.std.specs.List.{list_all}
use Rattle.escpos_barcode.specs.Tables.{code128_rows, code128_table}
use Rattle.escpos_barcode.specs.Pen.{is_element}
use Rattle.escpos_barcode.proofs.Rows.{row_from_zero, row_beyond, row_all}
use Rattle.escpos_barcode.proofs.tables.code128_pattern.Goals as goal

pub returns-then-place-lt107-clause-row : goal.returns-then-place-lt107-clause-row
unfolding code128_rows code128_table
returns-then-place-lt107-clause-row c =
    rw c.from-place.ensures (row_from_zero code128_rows c.args.value [] (omega arith))

pub returns-then-place-lt107-clause-elements : goal.returns-then-place-lt107-clause-elements
unfolding code128_rows code128_table
returns-then-place-lt107-clause-elements c =
    rw (c.from-place.ensures, row_from_zero code128_rows c.args.value [] (omega arith)) (row_all (list_all is_element) code128_table c.args.value refl refl)

pub returns-else-place-lt107-clause-row : goal.returns-else-place-lt107-clause-row
unfolding code128_rows code128_table
returns-else-place-lt107-clause-row c = sym (row_beyond code128_rows 0 c.args.value (omega arith) (omega arith))
