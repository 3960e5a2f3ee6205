use Rattle.std.proofs.Common.{subst, sym}
use Rattle.escpos_decode.specs.Push.{AheadIs}
use Rattle.escpos_decode.specs.State.{NextIs}
use Rattle.escpos_decode.proofs.States.{tree_law, ahead_is}
use Rattle.escpos_decode.proofs.decoder.Decoder.look.Goals as goal

pub returns-clause-ahead : goal.returns-clause-ahead
returns-clause-ahead c =
    subst (λ v. AheadIs v c.args.self.now c.args.byte) (sym c.completed-ahead.ensures)
    (ahead_is tree_law
    c.next-next.result _ _ _ _ _ c.as_slice.ensures.value c.self.view_is c.self.invariant.0 c.next-next.ensures)

pub invariant_of-self : goal.invariant_of-self
invariant_of-self c =
    (c.self.invariant.0, c.self.invariant.1, subst (λ v. NextIs c.next-next.result c.self.inside.state v c.args.byte) c.as_slice.ensures.value c.next-next.ensures)
