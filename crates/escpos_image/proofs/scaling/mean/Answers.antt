-- Each row adds its part of the box, and no gray value is above 255.
use Rattle.std.proofs.Common.{◌≡◌, ℕ, ◌+◌, ◌-◌, ◌*◌, ◌≤◌, ◌<◌, length, map, sum, sym, ap, ◌∙◌, arith}
use Rattle.std.specs.List.{range_with_len}
use Rattle.std.proofs.lemmas.Nat.{mul-add-lt}
use Rattle.escpos_image.specs.Scaling.{box_sum, row_part}
use Rattle.escpos_image.proofs.Ranges.{sum_range, length_part, more_rows, mean_small}
use Rattle.escpos_image.proofs.scaling.mean.Goals as goal

pub loop-y-preserved : goal.loop-y-preserved
loop-y-preserved c =
    let p = c.args.picture.now in
    let total = c.loop-y.total in
    let part = c.row_sum-total.result in
    let y = c.loop-y.y in
    let top = c.args.top in
    let left = c.args.left in
    let right = c.args.right in
    let f : ℕ → ℕ = λ k. sum (row_part p.width p.grays left right k) in
    let more : y + 1 - top ≡ y - top + 1 = omega arith in
    let here : top + (y - top) ≡ y = omega arith in
    let is : part ≡ f y = c.row_sum-total.ensures.value ∙ rw (c.grays-grays.ensures.value, c.width.ensures.value) in
    let inside : y * p.width + (right - 1) < p.width * p.height = mul-add-lt y p.width (right - 1) p.height (omega arith) (omega arith) in
    let long : length (row_part p.width p.grays left right y) ≡ y * p.width + right - (y * p.width + left) =
    length_part p.grays (y * p.width + left) (y * p.width + right) (omega arith) (omega (arith, c.width.ensures.whole.whole)) in
    let few : part ≤ 255 * length (row_part p.width p.grays left right y) = rw (c.grays-grays.ensures.value, c.width.ensures.value) at c.row_sum-total.ensures.most in
    let small : part ≤ 255 * (right - left) = omega arith in
    record {
      so_far = ap (λ t. t + part) c.loop-y.invariant.so_far
          ∙ ap (λ v. box_sum p.width p.grays left right top (y - top) + v) (is ∙ ap f (sym here)) ∙ sym (sum_range f top (y - top))
          ∙ ap (λ k. sum (map f (range_with_len top k))) (sym more);
      most = rw more (more_rows total part (y - top) (255 * (right - left)) c.loop-y.invariant.most small);
      small = omega arith;
    }

pub overflow_cast-result : goal.overflow_cast-result
overflow_cast-result c =
    let all : c.loop-y.y ≡ c.args.bottom = omega arith in
    let most = mean_small c.loop-y.total (c.args.right - c.args.left) (c.args.bottom - c.args.top) (rw all at c.loop-y.invariant.most) in
    omega arith
