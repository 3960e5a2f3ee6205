use Rattle.std.proofs.Common.{[], ◌∷◌, refl, sym, ◌∙◌, subst}
use Rattle.std.specs.Prelude.{IfSome, length, ◌<◌}
use Rattle.escpos_link.specs.declared.event.Event.TheVariants as event
use Rattle.escpos_link.specs.Line.{LineView}
use Rattle.escpos_link.specs.Straight.{all_bytes}
use Rattle.escpos_link.proofs.Moving.{short_out}
use Rattle.escpos_link.proofs.Running.{of_err, of_ok, stops_at}
use Rattle.escpos_link.proofs.sim.Sim.exchange.Goals as goal

pub returns-then-is_err-clause-stopped : goal.returns-then-is_err-clause-stopped
returns-then-is_err-clause-stopped c =
    let r = of_err c.step.result (sym c.is_err.ensures.value ∙ c.if-is_err.true) c.step.ensures.refused in
    stops_at c.args.self.now c.args.self.now c.step.new.self [] _ (event.Move all_bytes) r.0 refl (λ why is. is.0) r.1

pub returns-then-is_err-2-clause-stopped : goal.returns-then-is_err-2-clause-stopped
returns-then-is_err-2-clause-stopped c =
    let one = of_ok c.step.result (sym c.is_err.ensures.value ∙ c.if-is_err.false) c.step.ensures.happened in
    let r = of_err c.step-2.result (sym c.is_err-2.ensures.value ∙ c.if-is_err-2.true) c.step-2.ensures.refused in
    stops_at c.args.self.now c.step.new.self c.step-2.new.self (event.Move all_bytes ∷ []) _ (event.Deliver all_bytes) r.0 (one.0, c.step.new.self, one.1, refl) (λ why is. is.0) r.1

pub returns-then-is_err-3-clause-stopped : goal.returns-then-is_err-3-clause-stopped
returns-then-is_err-3-clause-stopped c =
    let one = of_ok c.step.result (sym c.is_err.ensures.value ∙ c.if-is_err.false) c.step.ensures.happened in
    let two = of_ok c.step-2.result (sym c.is_err-2.ensures.value ∙ c.if-is_err-2.false) c.step-2.ensures.happened in
    let r = of_err c.step-3.result (sym c.is_err-3.ensures.value ∙ c.if-is_err-3.true) c.step-3.ensures.refused in
    stops_at c.args.self.now c.step-2.new.self c.step-3.new.self (event.Move all_bytes ∷ event.Deliver all_bytes ∷ []) _ event.HandOver r.0
    (one.0, c.step.new.self, one.1, (two.0, c.step-2.new.self, two.1, refl)) (λ why is. is.0) r.1

pub returns-clause-happened : goal.returns-clause-happened
returns-clause-happened c =
    let one = of_ok c.step.result (sym c.is_err.ensures.value ∙ c.if-is_err.false) c.step.ensures.happened in
    let two = of_ok c.step-2.result (sym c.is_err-2.ensures.value ∙ c.if-is_err-2.false) c.step-2.ensures.happened in
    let three = of_ok c.step-3.result (sym c.is_err-3.ensures.value ∙ c.if-is_err-3.false) c.step-3.ensures.happened in
    let four = of_ok c.step-4.result (sym c.is_err-4.ensures.value ∙ c.if-is_err-4.false) c.step-4.ensures.happened in
    (one.0, c.step.new.self, one.1, (two.0, c.step-2.new.self, two.1, (three.0, c.step-3.new.self, three.1, (four.0, c.step-4.new.self, four.1, refl))))

pub returns-clause-short : goal.returns-clause-short
returns-clause-short c = λ some.
    let one = of_ok c.step.result (sym c.is_err.ensures.value ∙ c.if-is_err.false) c.step.ensures.happened in
    let moves = one.1.0 in
    short_out c.args.self.now.live c.args.self.now.host.out moves.0 all_bytes moves.2 some
    (subst (λ (v : LineView). IfSome v.live (λ bytes. length bytes < all_bytes)) moves.3
    (subst (λ (v : LineView). IfSome v.live (λ bytes. length bytes < all_bytes)) c.self.view_is c.is_short.ensures))
