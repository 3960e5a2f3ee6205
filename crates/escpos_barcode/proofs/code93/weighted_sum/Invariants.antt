-- The sum so far and that of the values that are left are the whole sum.
use Rattle.std.proofs.Common.{◌≡◌, ◌≤◌, ◌+◌, ◌*◌, drop}
use Rattle.escpos_barcode.specs.Code93.{weighted_sum}
use Rattle.escpos_barcode.proofs.code93.weighted_sum.Given as goal

abbrev pub invariant-loop-place : goal.invariant-loop-place
invariant-loop-place l = record {
  whole : weighted_sum l.fn.most l.values ≡ l.sum + weighted_sum l.fn.most (drop l.place l.values);
  small : l.sum ≤ 5100 * l.place;
}
