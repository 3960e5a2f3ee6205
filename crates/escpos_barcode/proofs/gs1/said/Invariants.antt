-- The characters so far and those of the parts that are left are those of all.
use Rattle.std.proofs.Common.{◌≡◌, ◌≤◌, ◌++◌, length, drop}
use Rattle.escpos_barcode.specs.Gs1.{said}
use Rattle.escpos_barcode.proofs.gs1.said.Given as goal

abbrev pub invariant-loop-part : goal.invariant-loop-part
invariant-loop-part l = record {
  whole : said l.parts ≡ l.characters.items ++ said (drop l.part-index l.parts);
  few : length l.characters.items ≤ l.part-index;
}
