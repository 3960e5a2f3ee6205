-- The characters so far and those that the rest of the message makes are the whole.
use Rattle.std.proofs.Common.{◌≡◌, ◌≤◌, ◌+◌, ◌*◌, ◌++◌, length, drop}
use Rattle.escpos_barcode.specs.Gs1.{gs1_characters, with_sets}
use Rattle.escpos_barcode.proofs.gs1.gs1_characters.Given as goal

abbrev pub invariant-loop-place : goal.invariant-loop-place
invariant-loop-place l = record {
  whole : gs1_characters l.message ≡ l.characters.items ++ with_sets l.set l.pending (drop l.place l.message);
  few : length l.characters.items ≤ 3 * l.place + 2;
}
