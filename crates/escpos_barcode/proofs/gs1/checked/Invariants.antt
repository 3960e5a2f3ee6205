-- The parts so far and those that are left make the whole.
use Rattle.std.proofs.Common.{◌≡◌, ◌≤◌, [], length, drop}
use Rattle.escpos_barcode.specs.Gs1.{checked_after}
use Rattle.escpos_barcode.proofs.gs1.checked.Given as goal

abbrev pub invariant-loop-part : goal.invariant-loop-part
invariant-loop-part l = record {
  whole : checked_after [] l.parts ≡ checked_after l.found.items (drop l.part-index l.parts);
  few : length l.found.items ≤ l.part-index;
}
