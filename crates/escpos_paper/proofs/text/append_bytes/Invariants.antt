-- What is appended so far and the text of the bytes that are left make the whole text.
use Rattle.std.proofs.Common.{◌≡◌, ◌+◌, ◌*◌, ◌≤◌, ◌++◌, length, drop}
use Rattle.std.specs.Prelude.{flat_map}
use Rattle.escpos_paper.specs.ItemsText.{byte_text}
use Rattle.escpos_paper.proofs.text.append_bytes.Given as goal

abbrev pub invariant-loop-byte : goal.invariant-loop-byte
invariant-loop-byte l = record {
  whole : l.initial.gather.kept ++ flat_map byte_text l.bytes ≡ l.gather.kept ++ flat_map byte_text (drop l.byte-index l.bytes);
  short : length l.gather.kept ≤ length l.initial.gather.kept + 3 * l.byte-index;
  same_count : l.gather.written ≡ l.initial.gather.written;
}
