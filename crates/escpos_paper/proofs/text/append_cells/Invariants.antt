-- What is appended so far and the text of the cells that are left make the whole text.
use Rattle.std.proofs.Common.{◌≡◌, ◌+◌, ◌*◌, ◌≤◌, ◌++◌, length, drop}
use Rattle.escpos_paper.specs.ItemsText.{cells_text}
use Rattle.escpos_paper.proofs.text.append_cells.Given as goal

abbrev pub invariant-loop-cell : goal.invariant-loop-cell
invariant-loop-cell l = record {
  whole : l.initial.gather.kept ++ cells_text l.margin l.before l.cells ≡ l.gather.kept ++ cells_text l.margin l.last (drop l.cell-index l.cells);
  short : length l.gather.kept ≤ length l.initial.gather.kept + 53 * l.cell-index;
  same_count : l.gather.written ≡ l.initial.gather.written;
}
