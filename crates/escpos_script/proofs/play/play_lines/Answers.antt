-- Each line's text is printed after those before it.
use Rattle.std.proofs.Common.{true, false, ◌≡◌, ◌≢◌, ◌∙◌, [], ◌++◌, ◌==◌, refl, sym, ap, subst, append-nil, length, arith}
use Rattle.std.specs.Result.{is_ok}
use Rattle.escpos_io.specs.Gather.{Carries}
use Rattle.escpos_script.proofs.Plays.{begun, begun_none, empty_rest, ended_lines, next_line, no_device_so_far}
use Rattle.escpos_io.proofs.Giving.{given_appended}
use Rattle.escpos_script.proofs.play.play_lines.Goals as goal
use Rattle.escpos_script.proofs.play.play_lines.Goals.{then-loop-end-test+else-is_ok, else-loop-end-test}

pub loop-end-init : goal.loop-end-init
loop-end-init g c = record {
  told = ([], begun c.args.script.now c.args.sim.now, begun_none c.args.script.now c.args.sim.now, c.new-gather.ensures.carries (g.W.ByteOut.written c.args.output.now));
  few = omega arith;
  width = refl;
  no_device = no_device_so_far _ refl;
  well = λ well. well;
}

pub loop-end-preserved : goal.loop-end-preserved
loop-end-preserved g c =
    let first = g.W.ByteOut.written c.args.output.now in
    let sink = g.W.ByteOut.written c.room.new.writer in
    let before = c.loop-end.invariant.told in
    let more = c.play_line-end.ensures.told in
    let roomed = subst (λ v. Carries first sink c.room.new.self v) (append-nil before.0) (c.in_ok-room.ensures.given.ok first before.0 before.3) in
    let given = given_appended sink false c.room.new.self c.play_line-end.new.gather more.0 more.2 c.play_line-end.ensures.same_count in
    let some : c.loop-end.rest.now ≢ [] = λ none.
    let bad : true ≡ false = ap (λ s. length s == 0) (sym none) ∙ sym c.is_empty.ensures ∙ c.loop-end-test.true in cc
    in
    let next = next_line c.loop-end.end c.play_line-end.result c.args.script.now c.loop-end.rest.now _ _ c.loop-end.number _ c.args.sim.now c.loop-end.sim c.play_line-end.new.sim before.0 more.0
    c.if-is_ok.ensures.value before.1 before.2 refl some c.first_line.ensures.first more.1 in
    record {
      told = (before.0 ++ more.0, next.0, next.1, given.ok first before.0 roomed);
      few = omega (arith, c.loop-end.invariant.few, c.first_line.ensures.shorter);
      width = c.play_line-end.ensures.width ∙ c.loop-end.invariant.width;
      no_device = c.play_line-end.ensures.no_device;
      well = λ well. c.in_ok-room.ensures.given.not_failed (c.loop-end.invariant.well well);
    }

pub returns-clause-told : goal.returns-clause-told
returns-clause-told g c = λ well.
    let told = c.loop-end.invariant.told in
    let none_left : is_ok c.loop-end.end ≡ true → c.loop-end.rest.now ≡ [] = λ good. elim c.loop-end-test.branch [
      | then-loop-end-test+else-is_ok w ↦ let bad : true ≡ false = sym good ∙ sym w.is_ok.ensures.value ∙ w.if-is_ok.false in cc
      | else-loop-end-test w ↦ empty_rest c.loop-end.rest.now (sym c.is_empty.ensures ∙ w.loop-end-test.false)
    ] in (
      told.0,
      ended_lines c.loop-end.end c.args.script.now c.loop-end.rest.now c.args.sim.now c.loop-end.sim told.0 none_left told.1,
      c.in_ok-flush.ensures.ok (g.W.ByteOut.written c.args.output.now) told.0 told.3,
    )
