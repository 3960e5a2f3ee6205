-- What is drawn so far, and then the pairs that are left, make the whole.
use Rattle.std.proofs.Common.{◌≡◌, ◌*◌, drop}
use Rattle.escpos_barcode.specs.Pen.{draw}
use Rattle.escpos_barcode.specs.Elements.{pairs}
use Rattle.escpos_barcode.proofs.itf.draw_pairs.Given as goal

abbrev pub invariant-loop-pair : goal.invariant-loop-pair
invariant-loop-pair l = draw l.initial.pen (pairs l.digits) ≡ draw l.pen (pairs (drop (2 * l.pair) l.digits))
