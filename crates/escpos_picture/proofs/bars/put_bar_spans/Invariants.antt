-- The bars and spaces so far are drawn.
use Rattle.std.proofs.Common.{drop, true}
use Rattle.escpos_io.specs.Putting.{passage}
use Rattle.escpos_picture.specs.Spans.{spans_text}
use Rattle.escpos_picture.specs.BarItems.{bar_spans}
use Rattle.escpos_picture.proofs.RasterRows.{DrawnTo}
use Rattle.escpos_picture.proofs.bars.put_bar_spans.Given as goal

abbrev pub invariant-loop-width : goal.invariant-loop-width
invariant-loop-width g l = record {
  so_far : DrawnTo (passage (g.W.ByteOut.written l.fn.writer) (g.W.ByteOut.written l.writer) (g.W.ByteOut.failed l.fn.writer) (g.W.ByteOut.failed l.writer))
      l.fn.gather l.gather (spans_text (bar_spans l.is_bar (drop l.width-index l.widths))) (spans_text (bar_spans true l.widths));
}
