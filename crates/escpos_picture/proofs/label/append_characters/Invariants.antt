-- What is appended so far and the characters that are left make the whole text.
use Rattle.std.proofs.Common.{◌≡◌, ◌+◌, ◌*◌, ◌≤◌, ◌++◌, length, drop}
use Rattle.escpos_picture.specs.Rows.{characters_text}
use Rattle.escpos_picture.proofs.label.append_characters.Given as goal

abbrev pub invariant-loop-byte : goal.invariant-loop-byte
invariant-loop-byte l = record {
  whole : l.initial.gather.kept ++ characters_text 0 0 l.text ≡ l.gather.kept ++ characters_text 0 0 (drop l.byte-index l.text);
  short : length l.gather.kept ≤ length l.initial.gather.kept + 6 * l.byte-index;
  same_count : l.gather.written ≡ l.initial.gather.written;
}
