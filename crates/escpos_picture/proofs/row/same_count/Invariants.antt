-- The cells so far all join, and those that are left are counted from the style of the last.
use Rattle.std.proofs.Common.{◌≡◌, ◌+◌, drop}
use Rattle.escpos_picture.specs.Rows.{same_count}
use Rattle.escpos_picture.proofs.row.same_count.Given as goal

abbrev pub invariant-loop-cell : goal.invariant-loop-cell
invariant-loop-cell l = record {
  whole : same_count l.style l.cells ≡ l.count + same_count l.before (drop l.cell-index l.cells);
  counted : l.count ≡ l.cell-index;
}
