-- What is appended so far and the text of the cells that are left make the whole text.
use Rattle.std.proofs.Common.{◌≡◌, ◌+◌, ◌*◌, ◌≤◌, ◌++◌, length, drop}
use Rattle.escpos_paper.specs.ItemsText.{run_text}
use Rattle.escpos_paper.proofs.text.append_run.Given as goal

abbrev pub invariant-loop-cell : goal.invariant-loop-cell
invariant-loop-cell l = record {
  whole : l.initial.gather.kept ++ run_text l.cells ≡ l.gather.kept ++ run_text (drop l.cell-index l.cells);
  short : length l.gather.kept ≤ length l.initial.gather.kept + 3 * l.cell-index;
  same_count : l.gather.written ≡ l.initial.gather.written;
}
