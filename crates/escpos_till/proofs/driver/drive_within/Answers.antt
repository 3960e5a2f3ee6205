-- A run goes on by one deed, and ends where the owner is told.
use Rattle.std.proofs.Common.{◌-◌, inl, inr, refl, subst, arith}
use Rattle.escpos_till.specs.Driver.{RanQuietly}
use Rattle.escpos_till.specs.Surroundings.{Did}
use Rattle.escpos_till.proofs.DriverLemmas.{all_done, silent_goes_on, none_done, one_less, ran_more, ran_to, told_so}
use Rattle.escpos_till.proofs.driver.drive_within.Goals as goal

pub loop-left-init : goal.loop-left-init
loop-left-init g c = record {
  ran = none_done (Did g.S.Store.faithful g.S.Store.holds g.S.Store.leaves g.S.Store.says g.L.PrinterLine.did) c.args.machine.now c.args.around.now c.args.left.now;
  within = omega arith;
  on = inl (refl, refl);
}

pub returns-in-Tells-clause-told : goal.returns-in-Tells-clause-told
returns-in-Tells-clause-told g c =
    let (deed, telling, turns, done) = c.in-Tells.ensures.tells c.in-Tells.note refl in
    let within = c.loop-left.invariant.within in
    ran_to (Did g.S.Store.faithful g.S.Store.holds g.S.Store.leaves g.S.Store.says g.L.PrinterLine.did) c.args.machine.now c.args.around.now c.loop-left.machine c.loop-left.around (c.args.left.now - c.loop-left.left) deed c.in-Tells.note
    c.args.left.now (c.loop-left.left - 1) c.turn.new.machine c.turn.new.around c.loop-left.invariant.ran
    (told_so (c.args.left.now - c.loop-left.left) c.loop-left.left c.args.left.now refl c.loop-left-test.true within) telling turns c.turn.ensures.sound done

pub loop-left-preserved : goal.loop-left-preserved
loop-left-preserved g c =
    let (deed, not, turns, done) = c.in-Done.ensures.turned refl in
    let within = c.loop-left.invariant.within in
    record {
      ran = subst (λ n. RanQuietly (Did g.S.Store.faithful g.S.Store.holds g.S.Store.leaves g.S.Store.says g.L.PrinterLine.did) c.args.machine.now c.args.around.now c.turn.new.machine c.turn.new.around n)
          (one_less c.loop-left.left c.args.left.now c.loop-left-test.true within)
          (ran_more (Did g.S.Store.faithful g.S.Store.holds g.S.Store.leaves g.S.Store.says g.L.PrinterLine.did) c.args.machine.now c.args.around.now c.loop-left.machine c.loop-left.around (c.args.left.now - c.loop-left.left) deed
          c.turn.new.machine c.turn.new.around c.loop-left.invariant.ran not turns c.turn.ensures.sound done);
      within = omega (arith, within);
      on = inr (silent_goes_on c.loop-left.machine deed c.turn.new.machine not turns);
    }

pub returns-clause-not_told : goal.returns-clause-not_told
returns-clause-not_told g c = λ _.
    let none = c.loop-left-test.false in
    inr (all_done (Did g.S.Store.faithful g.S.Store.holds g.S.Store.leaves g.S.Store.says g.L.PrinterLine.did) c.args.machine.now c.args.around.now c.loop-left.machine c.loop-left.around (c.args.left.now - c.loop-left.left) c.args.left.now
    c.loop-left.invariant.ran (omega arith) (omega (arith, none)))
