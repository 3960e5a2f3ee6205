use Rattle.std.proofs.Common.{◌≡◌, ◌-◌, ◌*◌, ◌≤◌}
use Rattle.escpos_image.specs.Scaling.{box_sum}
use Rattle.escpos_image.proofs.scaling.mean.Given as goal

abbrev pub invariant-loop-y : goal.invariant-loop-y
invariant-loop-y l = record {
  so_far : l.total ≡ box_sum l.picture.width l.picture.grays l.left l.right l.top (l.y - l.top);
  most : l.total ≤ (l.y - l.top) * (255 * (l.right - l.left));
  small : l.total ≤ 16711425 * (l.y - l.top);
}
