use Rattle.std.proofs.Common.{[], ◌∷◌, refl, sym, ◌∙◌, ap, subst, arith}
use Rattle.escpos_host.specs.Machine.{HostView, state_of}
use Rattle.escpos_link.specs.declared.event.Event.TheVariants as event
use Rattle.escpos_link.specs.Steps.{StopsIn}
use Rattle.escpos_link.specs.Straight.{exchange, marks_for, opening}
use Rattle.escpos_link.proofs.Running.{is_down, of_err, of_ok, on_err, opens, stops_at, stops_later}
use Rattle.escpos_link.proofs.sim.Sim.open.Goals as goal

pub returns-then-is_err-clause-stopped : goal.returns-then-is_err-clause-stopped
returns-then-is_err-clause-stopped c =
    let down = is_down c.args.self.now.host.phase (ap (λ (h : HostView). state_of h.phase) (sym c.host.ensures.value) ∙ sym c.state.ensures ∙ c.in-Down.is) in
    let r = of_err c.step.result (sym c.is_err.ensures.value ∙ c.if-is_err.true) c.step.ensures.refused in
    subst (λ p. StopsIn (opening p) c.args.self.now c.step.new.self) (sym down)
    (stops_at c.args.self.now c.args.self.now c.step.new.self [] exchange event.LinkUp r.0 refl (opens c.args.self.now down (omega (arith, c.requires.marks, ap marks_for down))) r.1)

pub returns-clause-stopped : goal.returns-clause-stopped
returns-clause-stopped c =
    let down = is_down c.args.self.now.host.phase (ap (λ (h : HostView). state_of h.phase) (sym c.host.ensures.value) ∙ sym c.state.ensures ∙ c.in-Down.is) in
    let one = of_ok c.step.result (sym c.is_err.ensures.value ∙ c.if-is_err.false) c.step.ensures.happened in
    on_err c.exchange.result c.exchange.ensures.stopped (λ s. subst (λ p. StopsIn (opening p) c.args.self.now c.exchange.new.self) (sym down)
    (stops_later c.args.self.now c.step.new.self c.exchange.new.self (event.LinkUp ∷ []) exchange (one.0, c.step.new.self, one.1, refl) s))
