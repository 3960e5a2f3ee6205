-- The runs so far are given, and those of the rest are left, from here on.
use Rattle.std.proofs.Common.{◌+◌, ◌*◌, ◌≤◌, length}
use Rattle.escpos_io.specs.Putting.{passage}
use Rattle.escpos_picture.specs.Rows.{runs, runs_drawing}
use Rattle.escpos_picture.proofs.RasterRows.{DrawnTo}
use Rattle.escpos_picture.proofs.row.put_runs.Given as goal

abbrev pub invariant-loop-rest : goal.invariant-loop-rest
invariant-loop-rest g l = record {
  so_far : DrawnTo (passage (g.W.ByteOut.written l.fn.writer) (g.W.ByteOut.written l.writer) (g.W.ByteOut.failed l.fn.writer) (g.W.ByteOut.failed l.writer))
      l.fn.gather l.gather (runs_drawing l.x (runs l.rest)) (runs_drawing 0 (runs l.cells));
  wide : l.x + 100000 * length l.rest ≤ 65535 + 100000 * length l.cells;
  fewer : length l.rest ≤ length l.cells;
}

abbrev pub decreases-loop-rest : goal.decreases-loop-rest
decreases-loop-rest g l = length l.rest
