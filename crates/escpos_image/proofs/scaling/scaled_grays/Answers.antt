-- Each row stands after those before it.
use Rattle.std.proofs.Common.{◌≡◌, ◌++◌, ap, ◌∙◌, arith}
use Rattle.escpos_image.specs.Scaling.{scaled_row}
use Rattle.escpos_image.proofs.Ranges.{flat_map_front}
use Rattle.escpos_image.proofs.scaling.scaled_grays.Goals as goal

pub loop-j-preserved : goal.loop-j-preserved
loop-j-preserved c =
    let row = scaled_row c.args.picture.now c.args.width c.args.height in
    let pushed : c.put_scaled_row.new.grays.items ≡ c.loop-j.grays.items ++ row c.loop-j.j = c.in_ok-put_scaled_row.ensures.grays in
    record {
      so_far = pushed ∙ ap (λ xs. xs ++ row c.loop-j.j) c.loop-j.invariant.so_far ∙ flat_map_front row c.loop-j.j;
      counted = omega (arith, c.in_ok-put_scaled_row.ensures.longer);
    }
