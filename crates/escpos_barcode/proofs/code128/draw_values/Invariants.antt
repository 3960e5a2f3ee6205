-- What is drawn so far, and then the values that are left, make the whole.
use Rattle.std.proofs.Common.{◌≡◌, drop}
use Rattle.std.specs.Prelude.{flat_map}
use Rattle.escpos_barcode.specs.Pen.{draw}
use Rattle.escpos_barcode.specs.Tables.{row, code128_table}
use Rattle.escpos_barcode.proofs.code128.draw_values.Given as goal

abbrev pub invariant-loop-value : goal.invariant-loop-value
invariant-loop-value l = draw l.initial.pen (flat_map (row code128_table) l.values) ≡ draw l.pen (flat_map (row code128_table) (drop l.value-index l.values))
