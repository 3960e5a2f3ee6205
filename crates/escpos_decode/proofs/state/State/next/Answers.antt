use Rattle.std.proofs.Common.{refl, sym, subst}
use Rattle.escpos_decode.specs.State.{NextIs}
use Rattle.escpos_decode.specs.declared.state.State.TheVariants.{MarkFunction}
use Rattle.escpos_decode.proofs.state.State.next.Goals as goal

pub returns-in-MarkFunction : goal.returns-in-MarkFunction
returns-in-MarkFunction c =
    subst (λ p. NextIs c.fixed-in-MarkFunction.result p c.args.content.now c.args.byte) (sym c.in-MarkFunction.is)
    (c.fixed-in-MarkFunction.ensures MarkFunction c.args.content.now refl refl refl)
