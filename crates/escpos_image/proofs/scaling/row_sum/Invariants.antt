use Rattle.std.proofs.Common.{◌≡◌, ◌*◌, ◌≤◌, take, sum}
use Rattle.escpos_image.proofs.scaling.row_sum.Given as goal

abbrev pub invariant-loop-gray : goal.invariant-loop-gray
invariant-loop-gray l = record {
  so_far : l.total ≡ sum (take l.gray-index l.grays);
  most : l.total ≤ 255 * l.gray-index;
}
