-- The sum so far and that of the values that are left are the whole sum.
use Rattle.std.proofs.Common.{◌≡◌, ◌≤◌, ◌+◌, ◌*◌, drop}
use Rattle.escpos_barcode.specs.Code128.{weighted}
use Rattle.escpos_barcode.proofs.code128.weighted_sum.Given as goal

abbrev pub invariant-loop-place : goal.invariant-loop-place
invariant-loop-place l = record {
  whole : l.start + weighted 1 l.values ≡ l.sum + weighted (l.place + 1) (drop l.place l.values);
  small : l.sum ≤ 255 + 261120 * l.place;
}
