use Rattle.std.proofs.Common.{◌≡◌, ◌∷◌, ◌∙◌, ap, length, length-append, arith}
use Rattle.escpos_link.proofs.Running.{go_on, stopped}
use Rattle.escpos_link.proofs.sim.Sim.run.Goals as goal

pub returns-in-Err-clause-refused : goal.returns-in-Err-clause-refused
returns-in-Err-clause-refused c =
    let s = c.loop-event.invariant in
    let first : c.loop-event.left.items ≡ c.in-Some.event ∷ c.pop_front.new.self.items = c.in-Some.ensures.items in
    stopped c.args.self.now c.loop-event.self c.step.new.self c.args.events.items c.loop-event.left.items c.pop_front.new.self.items c.in-Some.event _ s.so_far first
    (omega (arith, s.count, c.len.ensures, c.pop_front.new.self.ok.0, ap length first, ap length s.so_far.split, length-append s.so_far.before c.loop-event.left.items))
    c.in-Err.ensures.refused

pub loop-event-preserved : goal.loop-event-preserved
loop-event-preserved c =
    let s = c.loop-event.invariant in
    let first : c.loop-event.left.items ≡ c.in-Some.event ∷ c.pop_front.new.self.items = c.in-Some.ensures.items in
    record {
      so_far = go_on c.args.self.now c.loop-event.self c.step.new.self c.args.events.items c.loop-event.left.items c.pop_front.new.self.items c.in-Some.event c.in_default-step.field-0 s.so_far first c.in_default-step.ensures.happened;
      width = c.step.ensures.width ∙ s.width;
      count = s.count;
    }

pub returns-in-Err-clause-width : goal.returns-in-Err-clause-width
returns-in-Err-clause-width c = c.step.ensures.width ∙ c.loop-event.invariant.width
