-- The characters so far and those of the bytes that are left are those of the content.
use Rattle.std.proofs.Common.{◌≡◌, ◌≤◌, length, drop}
use Rattle.escpos_barcode.specs.Chains.{joined}
use Rattle.escpos_barcode.specs.Code128.{characters, characters_after}
use Rattle.escpos_barcode.proofs.code128.characters.Given as goal

abbrev pub invariant-loop-byte : goal.invariant-loop-byte
invariant-loop-byte l = record {
  whole : characters l.content ≡ joined l.found.items (characters_after l.after_brace (drop l.byte-index l.content));
  few : length l.found.items ≤ l.byte-index;
}
