-- The values so far and those of the bytes that are left are those of the content.
use Rattle.std.proofs.Common.{◌≡◌, ◌≤◌, ◌*◌, ◌++◌, length, drop}
use Rattle.std.specs.Prelude.{flat_map}
use Rattle.escpos_barcode.specs.Code93.{byte_values, code93_values}
use Rattle.escpos_barcode.proofs.code93.values_of.Given as goal

abbrev pub invariant-loop-byte : goal.invariant-loop-byte
invariant-loop-byte l = record {
  whole : code93_values l.content ≡ l.values.items ++ flat_map byte_values (drop l.byte-index l.content);
  few : length l.values.items ≤ 2 * l.byte-index;
}
