-- What is drawn so far, and then the elements that are left, make the whole.
use Rattle.std.proofs.Common.{◌≡◌, drop}
use Rattle.escpos_barcode.specs.Pen.{draw}
use Rattle.escpos_barcode.specs.Elements.{interleaved}
use Rattle.escpos_barcode.proofs.itf.draw_pair.Given as goal

abbrev pub invariant-loop-place : goal.invariant-loop-place
invariant-loop-place l = draw l.initial.pen (interleaved l.bars l.spaces) ≡ draw l.pen (interleaved (drop l.place l.bars) (drop l.place l.spaces))
