-- The digits so far and the parts that are left make the whole.
use Rattle.std.proofs.Common.{◌≡◌, ◌≤◌, length, drop, Some, None, IsTrue}
use Rattle.std.specs.Prelude.{if◌then◌else◌}
use Rattle.escpos_paper.specs.CheckDigit.{all_digits}
use Rattle.escpos_barcode.specs.Gs1.{fields_after}
use Rattle.escpos_barcode.proofs.gs1.field.Given as goal

abbrev pub invariant-loop-part : goal.invariant-loop-part
invariant-loop-part l = record {
  whole : fields_after None l.parts ≡ fields_after (if l.is_field then Some l.digits.items else None) (drop l.part-index l.parts);
  digits : IsTrue (all_digits l.digits.items);
  few : length l.digits.items ≤ l.part-index;
}
