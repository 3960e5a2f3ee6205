use Rattle.std.proofs.Common.{subst}
use Rattle.escpos_link.specs.declared.event.Event.TheVariants as event
use Rattle.escpos_link.specs.Line.{IsLine}
use Rattle.escpos_link.specs.Trusted.{IsTrusted}
use Rattle.escpos_link.proofs.sim.Sim.host.Goals as goal

pub returns-clause-in_turn : goal.returns-clause-in_turn
returns-clause-in_turn c = λ k told after happened.
    c.trust.ensures.in_turn (event.Answer k) c.args.self.now after told (subst IsLine c.self.view_is c.self.invariant.0)
    (subst IsTrusted c.self.view_is c.self.invariant.1) happened
