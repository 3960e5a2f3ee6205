use Rattle.std.proofs.Common.{◌++◌, [], length, refl, sym, ap, ◌∙◌, arith}
use Rattle.std.specs.Option.{unwrap_or}
use Rattle.escpos_picture.specs.Rows.{run, runs, run_drawing, runs_drawing, bytes_of}
use Rattle.escpos_picture.proofs.FirstRun.{drawn_on, nothing_left, wide_on}
use Rattle.escpos_picture.proofs.GivenSteps.{stopped_at, appended_at, given_as, nothing_given}
use Rattle.escpos_picture.proofs.row.put_runs.Goals as goal

pub loop-rest-init : goal.loop-rest-init
loop-rest-init g c = record {
  so_far = record { done = []; given = nothing_given _ _ _; whole_is = refl };
  wide = omega arith;
  fewer = omega arith;
}

pub returns-in_err-room : goal.returns-in_err-room
returns-in_err-room g c =
    let far = c.loop-rest.invariant.so_far in
    stopped_at c.from_residual.result c.in_err-room.field-0.0 _ _ _ _ _ _ _ _ _ far.done _ _ c.from_residual.ensures.1 far.given c.in_err-room.ensures.given far.whole_is

pub loop-rest-preserved : goal.loop-rest-preserved
loop-rest-preserved g c =
    let l = c.loop-rest in
    let far = l.invariant.so_far in
    let place = c.first_run-moved.result.0 in
    let style = c.first_run-moved.result.1 in
    let start = unwrap_or place l.x in
    let cells = c.split_at.result.0.now in
    let following = c.split_at.result.1.now in
    let step = run_drawing start (run style (bytes_of cells)) in
    let front = c.split_at.ensures.front_len in
    let back = c.split_at.ensures.back_len in
    let narrow = c.dots.ensures.small in
    record {
      so_far = record {
        done = far.done ++ step;
        given = appended_at _ _ _ _ _ _ _ _ _ _ far.done step far.given c.in_ok-room.ensures.given (rw c.left-start.ensures.value at c.append_run.ensures.kept) c.append_run.ensures.same_count;
        whole_is = far.whole_is ∙ ap (λ rs. far.done ++ runs_drawing l.x rs) c.first_run-moved.ensures.run
            ∙ rw (← c.split_at.ensures.front, ← c.split_at.ensures.back, c.dots.ensures.value, c.left-start.ensures.value) (rw front at (drawn_on far.done l.x place style cells (runs following)));
      };
      wide = wide_on l.x c.left-start.result c.dots.result c.first_run-moved.result.2 (length following) (length l.rest.now) (length c.args.cells.now) narrow back c.left-start.ensures.small
          l.invariant.fewer l.invariant.wide;
      fewer = omega (arith, back, l.invariant.fewer);
    }

pub returns : goal.returns
returns g c =
    let l = c.loop-rest in
    let far = l.invariant.so_far in
    given_as _ _ _ far.done _ far.given (far.whole_is ∙ nothing_left far.done l.x l.rest.now (sym c.is_empty.ensures ∙ c.loop-rest-test.false))
