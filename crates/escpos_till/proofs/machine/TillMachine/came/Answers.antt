-- What is heard over a link.
use Rattle.std.proofs.Common.{◌≡◌, ◌∙◌, ap, length, refl, sym, subst}
use Rattle.std.proofs.lemmas.Bool.{eqb-true}
use Rattle.escpos_till.specs.declared.stage.Stage.TheVariants as stage
use Rattle.escpos_till.specs.Machine.{Fits}
use Rattle.escpos_till.proofs.MachineLemmas.{came_so, fits_turns, hears_within}
use Rattle.escpos_till.proofs.machine.TillMachine.came.Goals as goal

pub invariant_of-self : goal.invariant_of-self
invariant_of-self c =
    let is : c.self.inside.stage ≡ stage.Talking c.in-Talking.talk = sym c.replace.ensures.value ∙ c.in-Talking.is in
    record {
      entries = c.self.invariant.entries;
      book = c.self.invariant.book;
      ledger = c.self.invariant.ledger;
      fits = fits_turns c.self.inside.book c.self.invariant.entries c.heard-heard.result.event c.in-Talking.talk c.less-left.result c.heard-heard.new.self c.turned.new.host c.turned.result
          c.self.invariant.book (subst (Fits c.self.inside.book c.self.invariant.entries) is c.self.invariant.fits) c.turned.ensures.turns;
    }

pub returns-in-Talking-clause-came : goal.returns-in-Talking-clause-came
returns-in-Talking-clause-came c =
    let is : c.args.self.now.stage ≡ stage.Talking c.in-Talking.talk = ap (λ m. m.stage) (sym c.self.view_is) ∙ sym c.replace.ensures.value ∙ c.in-Talking.is in
    let same : c.self.inside.host ≡ c.args.self.now.host = ap (λ m. m.host) c.self.view_is in
    let books : c.self.inside.book ≡ c.args.self.now.book = ap (λ m. m.book) c.self.view_is in
    came_so c.in-Talking.talk c.args.self.now.stage c.args.self.now.book c.self.inside.book c.args.self.now.host c.self.inside.host c.args.bytes.now c.heard-heard.result.consumed c.heard-heard.result.event
    c.heard-heard.new.self c.less-left.result c.turned.new.host c.turned.result is same books (c.heard-heard.ensures.down, c.heard-heard.ensures.up) c.less-left.ensures c.turned.ensures.turns (λ going. eqb-true c.heard-heard.result.consumed (length c.args.bytes.now) (c.turned.ensures.all going))

pub returns-in-Talking-clause-within : goal.returns-in-Talking-clause-within
returns-in-Talking-clause-within c =
    hears_within c.self.inside.host.phase c.self.inside.host c.args.bytes.now c.heard-heard.result.consumed c.heard-heard.result.event c.heard-heard.new.self refl
    (c.heard-heard.ensures.down, c.heard-heard.ensures.up)
