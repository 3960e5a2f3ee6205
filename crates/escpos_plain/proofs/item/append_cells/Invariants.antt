-- What is appended so far and the characters that are left make the whole text.
use Rattle.std.proofs.Common.{◌≡◌, ◌+◌, ◌*◌, ◌≤◌, ◌++◌, length, drop}
use Rattle.escpos_plain.specs.PlainText.{plain_cells}
use Rattle.escpos_plain.proofs.item.append_cells.Given as goal

abbrev pub invariant-loop-cell : goal.invariant-loop-cell
invariant-loop-cell l = record {
  whole : l.initial.gather.kept ++ plain_cells l.cells ≡ l.gather.kept ++ plain_cells (drop l.cell-index l.cells);
  short : length l.gather.kept ≤ length l.initial.gather.kept + 4 * l.cell-index;
  same_count : l.gather.written ≡ l.initial.gather.written;
}
