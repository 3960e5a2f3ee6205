-- The tag of the group, the runs and the end of the group are given one after another.
use Rattle.std.proofs.Common.{◌++◌, [], Ok, Err, refl, sym, ap}
use Rattle.std.specs.Prelude.{codes}
use Rattle.escpos_io.proofs.Giving.{given_in_turn, given_in_the_front}
use Rattle.escpos_picture.specs.Rows.{runs, runs_drawing}
use Rattle.escpos_picture.specs.Groups.{row_drawing, row_tag}
use Rattle.escpos_picture.proofs.GivenSteps.{appended_at, nothing_given}
use Rattle.escpos_picture.proofs.row.put_row.Goals as goal

pub returns-in_err-room : goal.returns-in_err-room
returns-in_err-room g c =
    given_in_the_front c.from_residual.result c.in_err-room.field-0.0 _ _ _ [] _ _ c.from_residual.ensures.1 c.in_err-room.ensures.given refl

pub returns-in_err-put_runs : goal.returns-in_err-put_runs
returns-in_err-put_runs g c =
    let row = c.as_slice-row.result.now in
    let start = row_tag c.args.width c.args.down c.args.align c.args.upside_down row in
    let cells = runs_drawing 0 (runs row) in
    let first = appended_at _ _ _ _ _ _ _ _ _ c.append_start.new.gather [] start (nothing_given _ _ _) c.in_ok-room.ensures.given c.append_start.ensures.kept c.append_start.ensures.same_count in
    let stopped = given_in_turn (Err c.in_err-put_runs.field-0.0) _ _ _ _ _ _ _ _ _ start cells (start ++ cells) first c.in_err-put_runs.ensures refl in
    given_in_the_front c.from_residual-in_err-put_runs.result c.in_err-put_runs.field-0.0 _ _ _ (start ++ cells) (codes "</g>\n") _
    c.from_residual-in_err-put_runs.ensures.1 stopped
    (ap (λ xs. row_drawing c.args.width c.args.down c.args.align c.args.upside_down xs) (sym c.as_slice-row.ensures.cells))

pub returns : goal.returns
returns g c =
    let row = c.as_slice-row.result.now in
    let start = row_tag c.args.width c.args.down c.args.align c.args.upside_down row in
    let cells = runs_drawing 0 (runs row) in
    let first = appended_at _ _ _ _ _ _ _ _ _ c.append_start.new.gather [] start (nothing_given _ _ _) c.in_ok-room.ensures.given c.append_start.ensures.kept c.append_start.ensures.same_count in
    let second = given_in_turn (Ok tt) _ _ _ _ _ _ _ _ _ start cells (start ++ cells) first c.in_ok-put_runs.ensures refl in
    given_in_turn c.put.result _ _ _ _ _ _ _ _ _ (start ++ cells) (codes "</g>\n") _ second c.put.ensures.given
    (ap (λ xs. row_drawing c.args.width c.args.down c.args.align c.args.upside_down xs) (sym c.as_slice-row.ensures.cells))
