-- Each opening mark is one more.
use Rattle.std.proofs.Common.{◌≡◌, arith, max, ◌∙◌, ap, subst}
use Rattle.std.proofs.Math.Nat.{le-max_left, max-le}
use Rattle.escpos_host.specs.Awaits.{dialled_by}
use Rattle.escpos_host.specs.Machine.{HasMark, nudged}
use Rattle.escpos_host.proofs.Dialling.{dialled_has, dialled_more}
use Rattle.escpos_host.proofs.send.dial.Goals as goal

pub loop-preserved : goal.loop-preserved
loop-preserved c =
    let before = c.loop.invariant.some in
    let few = c.loop-test.true in
    let most = le-max_left c.args.openings 1 in
    let nudge = c.in_default.ensures.nudged in
    let left = dialled_has c.args.reporting c.args.host.now c.loop.counter (subst HasMark c.loop.invariant.dialled nudge.1) in
    record {
      down = c.loop.invariant.down;
      some = omega (arith, before);
      few = omega (arith, few, most);
      marks = omega (arith, left);
      dialled = nudge.2 ∙ ap nudged c.loop.invariant.dialled ∙ dialled_more c.args.reporting c.args.host.now c.loop.counter;
    }

pub returns-clause-opened : goal.returns-clause-opened
returns-clause-opened c =
    let most = max-le c.loop-test.false c.loop.invariant.some in
    let few = c.loop.invariant.few in
    let count : c.loop.counter ≡ max c.args.openings 1 = omega (arith, most, few) in
    (c.loop.invariant.down, c.loop.invariant.dialled ∙ ap (dialled_by c.args.reporting c.args.host.now) count)

pub returns-clause-marks : goal.returns-clause-marks
returns-clause-marks c =
    let most = max-le c.loop-test.false c.loop.invariant.some in
    let marks = c.loop.invariant.marks in omega (arith, most, marks)
