-- After each row, the dots so far and those that follow are all.
use Rattle.std.proofs.Common.{◌≡◌, ℕ, ◌+◌, ◌-◌, ◌*◌, drop, sym, ap, ◌∙◌, arith}
use Rattle.std.proofs.lemmas.List.{drop-drop}
use Rattle.escpos_image.specs.Shading.{diffused}
use Rattle.escpos_image.proofs.Diffusing.{more_row, no_row}
use Rattle.escpos_image.proofs.diffusion.diffused.Goals as goal

pub loop-j-preserved : goal.loop-j-preserved
loop-j-preserved c =
    let l = c.loop-j in
    let p = c.args.picture.now in
    let width = c.width-width.result in
    let rest = drop (l.j * width) p.grays in
    let wide : l.j * width + width - l.j * width ≡ width = omega arith in
    let fewer : p.height - (l.j + 1) ≡ p.height - l.j - 1 = omega arith in
    let below : drop ((l.j + 1) * width) p.grays ≡ drop width rest =
    ap (λ (n : ℕ). drop n p.grays) (omega arith) ∙ sym (drop-drop width (l.j * width) p.grays) in
    let dots = rw (wide, c.grays-grays.ensures.value) at c.in_ok-put_row.ensures.dots in
    let errors = rw (wide, c.grays-grays.ensures.value) at c.in_ok-put_row.ensures.errors in
    record {
      so_far = rw (dots, errors, fewer, below) (sym (more_row l.dots.items width l.errors.items (p.height - l.j) rest (omega arith)) ∙ l.invariant.so_far);
      counted = omega (arith, c.in_ok-put_row.ensures.longer);
      row = c.in_ok-put_row.ensures.same_count ∙ l.invariant.row;
    }

pub returns-clause-dots : goal.returns-clause-dots
unfolding diffused
returns-clause-dots c =
    let l = c.loop-j in
    let p = c.args.picture.now in
    let width = c.width-width.result in
    sym (no_row l.dots.items width l.errors.items (p.height - l.j) (drop (l.j * width) p.grays) (omega arith))
    ∙ l.invariant.so_far ∙ rw c.width-width.ensures.value
