-- After each dot, those so far and those that are left are all.
use Rattle.std.proofs.Common.{◌≡◌, ◌+◌, ◌∷◌, [], ◌++◌, length, sym, ap, ◌∙◌, arith}
use Rattle.std.proofs.lemmas.List.{length_push}
use Rattle.escpos_image.proofs.DotSteps.{next_dot}
use Rattle.escpos_image.proofs.picture.read_dots.Goals as goal

pub loop-left-preserved : goal.loop-left-preserved
loop-left-preserved c =
    let h = c.args.header.now in
    let bytes = c.args.bytes.now in
    let l = c.loop-left in
    let step = next_dot h bytes l.grays.items l.left l.at l.column c.in_ok-dot.dot c.loop-left-test.true (sym c.in_ok-dot.ensures.value) in
    let pushed : c.put_gray.new.grays.items ≡ l.grays.items ++ c.in_ok-dot.dot.value ∷ [] = c.in_ok-put_gray.ensures in
    let longer : length c.put_gray.new.grays.items ≡ length l.grays.items + 1 = ap length pushed ∙ length_push l.grays.items c.in_ok-dot.dot.value in
    record {
      so_far = rw (pushed, c.column_after-column.ensures.value) (sym step ∙ l.invariant.so_far);
      counted = omega arith;
      within = c.in_ok-dot.ensures.next;
      inside = c.column_after-column.ensures.within;
    }
