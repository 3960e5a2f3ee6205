-- Those that have come, and the next one.
use Rattle.std.proofs.Common.{◌≡◌, [], List, refl, subst, sym, rules}
use Rattle.escpos_till_model.specs.declared.event.Happening.{Happening}
use Rattle.escpos_till_model.proofs.TillWorlds.{SoFar, all_came, goes_so_far, ran_extends}
use Rattle.escpos_till_model.proofs.till.Till.run.Goals as goal

pub loop-event-preserved : goal.loop-event-preserved
loop-event-preserved c = record {
  so_far =
      goes_so_far c.args.events.items c.loop-event.left.items c.pop_front.new.self.items c.args.self.now c.loop-event.self c.happen.new.self c.in-Some.event c.happen.result c.in-Some.ensures.items
      c.happen.ensures.happened c.happen.ensures.refused c.loop-event.invariant.so_far;
}

pub loop-event-init : goal.loop-event-init
loop-event-init c = record {
  so_far = subst (λ (left : List Happening). SoFar c.args.events.items left c.args.self.now c.args.self.now) (sym c.from_vec-left.ensures.items) (record { done = []; events_are = refl; ran = refl });
}

pub returns-clause-ran : goal.returns-clause-ran
returns-clause-ran c =
    let none : c.loop-event.left.items ≡ [] = search rules in
    all_came c.args.events.items c.loop-event.left.items c.args.self.now c.loop-event.self none c.loop-event.invariant.so_far

pub returns-clause-extends : goal.returns-clause-extends
returns-clause-extends c =
    let none : c.loop-event.left.items ≡ [] = search rules in
    ran_extends c.args.self.now c.loop-event.self c.args.events.items (all_came c.args.events.items c.loop-event.left.items c.args.self.now c.loop-event.self none c.loop-event.invariant.so_far)
