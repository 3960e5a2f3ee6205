-- The cells so far and those that are left reach as far as all.
use Rattle.std.proofs.Common.{◌≡◌, ◌+◌, ◌*◌, ◌≤◌, drop}
use Rattle.std.specs.Prelude.{max}
use Rattle.escpos_paper.specs.Cells.{reach_after, reach_of}
use Rattle.escpos_picture.proofs.row.reach.Given as goal

abbrev pub invariant-loop-cell : goal.invariant-loop-cell
invariant-loop-cell l = record {
  whole : reach_of l.cells ≡ max l.reach (reach_after l.end (drop l.cell-index l.cells));
  small : l.end ≤ 65535 + 100000 * l.cell-index;
  small_too : l.reach ≤ 65535 + 100000 * l.cell-index;
}
