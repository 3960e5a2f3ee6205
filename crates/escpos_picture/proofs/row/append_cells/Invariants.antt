-- What is appended so far and the characters that are left make the whole text.
use Rattle.std.proofs.Common.{◌≡◌, ◌+◌, ◌*◌, ◌≤◌, ◌++◌, length, drop}
use Rattle.escpos_picture.specs.Rows.{characters_text, bytes_of}
use Rattle.escpos_picture.proofs.row.append_cells.Given as goal

abbrev pub invariant-loop-cell : goal.invariant-loop-cell
invariant-loop-cell l = record {
  whole : l.initial.gather.kept ++ characters_text l.style.character_set l.style.table (bytes_of l.cells) ≡ l.gather.kept ++ characters_text l.style.character_set l.style.table (bytes_of (drop l.cell-index l.cells));
  short : length l.gather.kept ≤ length l.initial.gather.kept + 6 * l.cell-index;
  same_count : l.gather.written ≡ l.initial.gather.written;
}
