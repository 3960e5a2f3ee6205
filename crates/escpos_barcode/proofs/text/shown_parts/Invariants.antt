-- The text so far and that of the parts that are left are the whole text.
use Rattle.std.proofs.Common.{◌≡◌, ◌≤◌, ◌++◌, length, drop}
use Rattle.std.specs.Prelude.{flat_map}
use Rattle.escpos_barcode.specs.Shown.{shown_part}
use Rattle.escpos_barcode.proofs.text.shown_parts.Given as goal

abbrev pub invariant-loop-part : goal.invariant-loop-part
invariant-loop-part l = record {
  whole : flat_map shown_part l.parts ≡ l.text.items ++ flat_map shown_part (drop l.part-index l.parts);
  short : length l.text.items ≤ l.part-index;
}
