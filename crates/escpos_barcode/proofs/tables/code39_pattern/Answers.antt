use Rattle.std.proofs.Common.{refl, sym}
use Rattle.std.specs.List.{list_all}
use Rattle.std.proofs.lemmas.Bool.{ne_eqb}
use Rattle.escpos_barcode.specs.Tables.{code39_data, code39_star}
use Rattle.escpos_barcode.specs.Pen.{is_element}
use Rattle.escpos_barcode.proofs.Rows.{row_all}
use Rattle.escpos_barcode.proofs.tables.code39_pattern.Goals as goal

pub returns-then-byte-eq42-clause-row : goal.returns-then-byte-eq42-clause-row
unfolding code39_star
returns-then-byte-eq42-clause-row c = rw c.if-byte-eq42.true refl

pub returns-clause-row : goal.returns-clause-row
unfolding code39_data
returns-clause-row c = rw (ne_eqb 42 c.args.byte (λ e. c.if-byte-eq42.false (sym e))) c.pattern_of.ensures

pub returns-clause-elements : goal.returns-clause-elements
unfolding code39_data
returns-clause-elements c = rw c.pattern_of.ensures (row_all (list_all is_element) code39_data c.args.byte refl refl)
