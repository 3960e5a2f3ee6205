-- After each dot, the dots and errors so far and those that follow are those of the row.
use Rattle.std.proofs.Common.{◌≡◌, ◌+◌, ◌<◌, ◌∷◌, [], ◌++◌, length, take, drop, get_or, sym, ap, ◌∙◌, arith}
use Rattle.std.proofs.Math.ListN.{set}
use Rattle.std.proofs.lemmas.List.{get_or_read, length_push, drop-set-lt, take_more_set, take_all}
use Rattle.escpos_image.specs.declared.diffusion.TheConstants.{NO_ERROR}
use Rattle.escpos_image.specs.Diffusion.{is_black, error}
use Rattle.escpos_image.proofs.Diffusing.{want_at, more_wants, no_wants}
use Rattle.escpos_image.proofs.diffusion.put_row.Goals as goal

pub loop-i-preserved : goal.loop-i-preserved
loop-i-preserved c =
    let l = c.loop-i in
    let grays = c.args.grays.now in
    let errors = l.errors.items in
    let here = c.error-left.result in
    let want = want_at l.left l.above_left errors grays l.i in
    let inside : l.i < length errors = omega arith in
    let above : c.index-above.result.now ≡ get_or errors l.i NO_ERROR = get_or_read errors l.i c.index-above.result.now inside c.index-above.ensures NO_ERROR in
    let is : c.wanted-want.result ≡ want = c.wanted-want.ensures.value ∙ rw (above, c.error_at.ensures) in
    let black : c.is_black.result ≡ is_black want = c.is_black.ensures ∙ ap is_black is in
    let left : here ≡ error want = c.error-left.ensures ∙ ap error is in
    let pushed : c.push.new.self.items ≡ l.dots.items ++ c.is_black.result ∷ [] = c.in_ok-push.ensures.items in
    let longer : length c.push.new.self.items ≡ length l.dots.items + 1 = ap length pushed ∙ length_push l.dots.items c.is_black.result in
    let rest : drop (l.i + 1) (set errors l.i here) ≡ drop (l.i + 1) errors = drop-set-lt (l.i + 1) errors l.i here (omega arith) in
    let so_far : take (l.i + 1) (set errors l.i here) ≡ take l.i errors ++ here ∷ [] = take_more_set errors l.i here inside in
    record {
      dots = rw (pushed, rest, black, left, above) (sym (more_wants is_black l.dots.items l.left l.above_left errors grays l.i c.loop-i-test.true) ∙ l.invariant.dots);
      errors = rw (so_far, rest, left, above) (sym (more_wants error (take l.i errors) l.left l.above_left errors grays l.i c.loop-i-test.true) ∙ l.invariant.errors);
      counted = omega arith;
      same_count = l.invariant.same_count;
    }

pub returns-clause-dots : goal.returns-clause-dots
returns-clause-dots c =
    let l = c.loop-i in
    sym (no_wants is_black l.dots.items l.left l.above_left (drop l.i l.errors.items) c.args.grays.now l.i c.loop-i-test.false) ∙ l.invariant.dots

pub returns-clause-errors : goal.returns-clause-errors
returns-clause-errors c =
    let l = c.loop-i in
    let all : length l.errors.items ≡ length c.args.grays.now = omega arith in
    sym (take_all l.i l.errors.items (omega arith))
    ∙ sym (no_wants error (take l.i l.errors.items) l.left l.above_left (drop l.i l.errors.items) c.args.grays.now l.i c.loop-i-test.false)
    ∙ l.invariant.errors
