-- What is drawn so far, and then the digits that are left, make the whole.
use Rattle.std.proofs.Common.{◌≡◌, drop}
use Rattle.std.specs.Prelude.{flat_map}
use Rattle.escpos_barcode.specs.Pen.{draw}
use Rattle.escpos_barcode.specs.Tables.{row, right_digits}
use Rattle.escpos_barcode.proofs.upc.draw_right.Given as goal

abbrev pub invariant-loop-digit : goal.invariant-loop-digit
invariant-loop-digit l = draw l.initial.pen (flat_map (row right_digits) l.digits) ≡ draw l.pen (flat_map (row right_digits) (drop l.digit-index l.digits))
