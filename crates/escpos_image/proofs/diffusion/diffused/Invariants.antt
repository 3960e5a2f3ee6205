use Rattle.std.proofs.Common.{◌≡◌, ◌-◌, ◌*◌, ◌++◌, length, drop, replicate, vec_len}
use Rattle.escpos_image.specs.declared.diffusion.TheConstants.{NO_ERROR}
use Rattle.escpos_image.specs.Diffusion.{diffused_rows}
use Rattle.escpos_image.proofs.diffusion.diffused.Given as goal

abbrev pub invariant-loop-j : goal.invariant-loop-j
invariant-loop-j l = record {
  so_far : l.dots.items ++ diffused_rows l.width l.errors.items (l.picture.height - l.j) (drop (l.j * l.width) l.picture.grays)
      ≡ diffused_rows l.width (replicate l.width NO_ERROR) l.picture.height l.picture.grays;
  counted : length l.dots.items ≡ l.width * l.j;
  row : vec_len l.errors ≡ l.width;
}
