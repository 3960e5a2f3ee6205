use Rattle.std.proofs.Common.{◌≡◌, ◌*◌, length}
use Rattle.escpos_image.specs.Scaling.{scaled_rows}
use Rattle.escpos_image.proofs.scaling.scaled_grays.Given as goal

abbrev pub invariant-loop-j : goal.invariant-loop-j
invariant-loop-j l = record {
  so_far : l.grays.items ≡ scaled_rows l.picture l.width l.height l.j;
  counted : length l.grays.items ≡ l.width * l.j;
}
