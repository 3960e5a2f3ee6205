-- One after another.
use Rattle.std.proofs.Common.{◌≡◌, true, false, refl, sym, ◌∙◌, subst}
use Rattle.std.proofs.lemmas.List.{take_all}
use Rattle.escpos_till.specs.Tries.{ClosesTry}
use Rattle.escpos_till.proofs.TryLemmas.{closes_at, none_so_far}
use Rattle.escpos_till.proofs.tries.closes_try.Goals as goal

pub loop-one-init : goal.loop-one-init
loop-one-init c = λ closes. closes.4

pub returns-then-is_closed : goal.returns-then-is_closed
returns-then-is_closed c = (
  λ is. closes_at c.args.tries.now c.loop-one.one-index c.one-item.result c.args.first c.args.end c.args.number c.args.id c.loop-one-test.true c.one-item.is (c.is_closed.ensures.0 c.if-is_closed.true),
  λ closes. refl,
)

pub loop-one-preserved : goal.loop-one-preserved
loop-one-preserved c = λ closes.
    none_so_far c.args.tries.now c.loop-one.one-index c.one-item.result c.args.first c.args.end c.args.number c.args.id c.loop-one-test.true c.one-item.is c.loop-one.invariant
    (λ is. let bad : true ≡ false = sym (c.is_closed.ensures.1 is) ∙ c.if-is_closed.false in cc) closes

pub returns : goal.returns
returns c = (
  λ is. absurd (let bad : true ≡ false = sym is in cc),
  λ closes. absurd (c.loop-one.invariant (subst (λ v. ClosesTry v c.args.first c.args.end c.args.number c.args.id) (sym (take_all c.loop-one.one-index c.args.tries.now c.loop-one-test.false)) closes)),
)
