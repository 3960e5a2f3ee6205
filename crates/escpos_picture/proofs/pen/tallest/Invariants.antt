-- The tallest of the cells so far and those that are left is the tallest of all.
use Rattle.std.proofs.Common.{◌≡◌, ◌≤◌, drop}
use Rattle.std.specs.Prelude.{max}
use Rattle.escpos_picture.specs.Places.{tallest}
use Rattle.escpos_picture.proofs.pen.tallest.Given as goal

abbrev pub invariant-loop-cell : goal.invariant-loop-cell
invariant-loop-cell l = record {
  whole : tallest l.cells ≡ max l.height (tallest (drop l.cell-index l.cells));
  small : l.height ≤ 6120;
}
