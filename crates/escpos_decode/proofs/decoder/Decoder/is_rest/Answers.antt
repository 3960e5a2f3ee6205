use Rattle.std.proofs.Common.{subst}
use Rattle.escpos_decode.specs.Push.{IsRest}
use Rattle.escpos_decode.proofs.States.{tree_law, rest_at}
use Rattle.escpos_decode.proofs.decoder.Decoder.is_rest.Goals as goal

pub returns : goal.returns
returns c =
    subst (λ v. IsRest v) c.self.view_is
    (rest_at tree_law _ _ c.self.invariant.0)
