-- The bytes so far are drawn, but for white ones after the last that has a black dot.
use Rattle.std.proofs.Common.{◌≡◌, ◌+◌, ◌*◌, ◌≤◌, drop}
use Rattle.escpos_io.specs.Putting.{passage}
use Rattle.escpos_picture.specs.Spans.{row_spans, spans_text, passed}
use Rattle.escpos_picture.proofs.RasterRows.{DrawnTo}
use Rattle.escpos_picture.proofs.raster.put_long_row.Given as goal

abbrev pub invariant-loop-byte : goal.invariant-loop-byte
invariant-loop-byte g l = record {
  so_far : DrawnTo (passage (g.W.ByteOut.written l.fn.writer) (g.W.ByteOut.written l.writer) (g.W.ByteOut.failed l.fn.writer) (g.W.ByteOut.failed l.writer))
      l.fn.gather l.gather (spans_text (row_spans l.white (drop l.byte-index l.row))) (spans_text (row_spans 0 l.row));
  way : passed (row_spans 0 l.row) + l.white ≡ 8 * l.byte-index + passed (row_spans l.white (drop l.byte-index l.row));
  near : l.white ≤ 8 * l.byte-index;
}
