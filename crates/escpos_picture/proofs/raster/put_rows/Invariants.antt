-- The rows above are drawn, or wait in the buffer, and those from this one on are left.
use Rattle.std.proofs.Common.{◌-◌, ◌≤◌, ◌++◌, length}
use Rattle.escpos_io.specs.Putting.{passage}
use Rattle.escpos_paper.specs.declared.content.TheConstants.{DOT_BYTES}
use Rattle.escpos_picture.specs.Rasters.{rows_of, rows_text}
use Rattle.escpos_picture.proofs.RasterRows.{DrawnTo}
use Rattle.escpos_picture.proofs.raster.put_rows.Given as goal

abbrev pub invariant-loop-line : goal.invariant-loop-line
invariant-loop-line g l = record {
  so_far : DrawnTo (passage (g.W.ByteOut.written l.fn.writer) (g.W.ByteOut.written l.writer) (g.W.ByteOut.failed l.fn.writer) (g.W.ByteOut.failed l.writer))
      l.fn.gather l.gather (l.spans.text ++ rows_text l.line (rows_of l.x (l.y - l.line) l.rest)) (rows_text 0 (rows_of l.x l.y l.dots));
  few : length l.rest ≤ DOT_BYTES;
  inside : l.line ≤ l.y;
}

abbrev pub decreases-loop-line : goal.decreases-loop-line
decreases-loop-line g l = l.y - l.line
