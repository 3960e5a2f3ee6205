-- What is drawn so far, and then the digits that are left in their number sets, make the whole.
use Rattle.std.proofs.Common.{◌≡◌, drop}
use Rattle.std.specs.Prelude.{flat_map}
use Rattle.escpos_barcode.specs.Pen.{draw}
use Rattle.escpos_barcode.specs.Tables.{row, left_digits}
use Rattle.escpos_barcode.specs.Elements.{in_sets}
use Rattle.escpos_barcode.proofs.upc.draw_left.Given as goal

abbrev pub invariant-loop-place : goal.invariant-loop-place
invariant-loop-place l = draw l.initial.pen (flat_map (row left_digits) (in_sets l.sets l.digits)) ≡ draw l.pen (flat_map (row left_digits) (in_sets (drop l.place l.sets) (drop l.place l.digits)))
