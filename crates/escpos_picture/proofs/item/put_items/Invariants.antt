-- The items so far are given, and those that are left are to be drawn from here on.
use Rattle.std.proofs.Common.{◌≡◌, drop}
use Rattle.escpos_io.specs.Putting.{passage}
use Rattle.escpos_picture.specs.Places.{place_after_all}
use Rattle.escpos_picture.specs.Groups.{drawings}
use Rattle.escpos_picture.proofs.RasterRows.{DrawnTo}
use Rattle.escpos_picture.proofs.item.put_items.Given as goal

abbrev pub invariant-loop-item : goal.invariant-loop-item
invariant-loop-item g l = record {
  so_far : DrawnTo (passage (g.W.ByteOut.written l.fn.writer) (g.W.ByteOut.written l.writer) (g.W.ByteOut.failed l.fn.writer) (g.W.ByteOut.failed l.writer))
      l.fn.gather l.gather (drawings l.pen (drop l.item-index l.items)) (drawings l.fn.pen l.items);
  place : place_after_all l.fn.pen l.items ≡ place_after_all l.pen (drop l.item-index l.items);
}
