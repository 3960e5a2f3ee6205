-- The parts so far and those of the bytes that are left are those of the content.
use Rattle.std.proofs.Common.{◌≡◌, ◌≤◌, length, drop, false}
use Rattle.escpos_barcode.specs.Chains.{joined}
use Rattle.escpos_barcode.specs.Gs1.{parts_after}
use Rattle.escpos_barcode.proofs.gs1.parts_of.Given as goal

abbrev pub invariant-loop-byte : goal.invariant-loop-byte
invariant-loop-byte l = record {
  whole : parts_after false l.content ≡ joined l.parts.items (parts_after l.after_brace (drop l.byte-index l.content));
  few : length l.parts.items ≤ l.byte-index;
}
