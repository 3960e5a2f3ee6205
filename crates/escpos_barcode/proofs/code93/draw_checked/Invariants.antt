-- What is drawn so far, and then the values that are left, make the whole.
use Rattle.std.proofs.Common.{◌≡◌, drop}
use Rattle.std.specs.Prelude.{flat_map}
use Rattle.escpos_barcode.specs.Pen.{draw}
use Rattle.escpos_barcode.specs.Tables.{row, code93_table}
use Rattle.escpos_barcode.proofs.code93.draw_checked.Given as goal

abbrev pub invariant-loop-value : goal.invariant-loop-value
invariant-loop-value l = draw l.initial.pen (flat_map (row code93_table) l.values) ≡ draw l.pen (flat_map (row code93_table) (drop l.value-index l.values))
