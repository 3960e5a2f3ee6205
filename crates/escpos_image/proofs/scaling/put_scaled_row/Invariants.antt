use Rattle.std.proofs.Common.{◌≡◌, ◌+◌, ◌++◌, length, map}
use Rattle.std.specs.List.{range_with_len}
use Rattle.escpos_image.specs.Scaling.{scaled_dot}
use Rattle.escpos_image.proofs.scaling.put_scaled_row.Given as goal

abbrev pub invariant-loop-i : goal.invariant-loop-i
invariant-loop-i l = record {
  so_far : l.grays.items ≡ l.fn.grays.items ++ map (scaled_dot l.picture l.width l.height l.j) (range_with_len 0 l.i);
  counted : length l.grays.items ≡ length l.fn.grays.items + l.i;
}
