-- What is drawn so far, and then the elements that are left, make the whole.
use Rattle.std.proofs.Common.{◌≡◌, drop}
use Rattle.escpos_barcode.specs.Pen.{draw}
use Rattle.escpos_barcode.proofs.pen.Pen.draw.Given as goal

abbrev pub invariant-loop-element : goal.invariant-loop-element
invariant-loop-element l = draw l.initial.self l.elements ≡ draw l.self (drop l.element-index l.elements)
