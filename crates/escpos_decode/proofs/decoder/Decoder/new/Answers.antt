use Rattle.std.proofs.Common.{sym, subst, arith}
use Rattle.escpos_decode.specs.State.{IsAt}
use Rattle.escpos_decode.specs.declared.state.State.TheVariants.{Start}
use Rattle.escpos_decode.proofs.States.{at_start}
use Rattle.escpos_decode.proofs.decoder.Decoder.new.Goals as goal

pub invariant_of-result : goal.invariant_of-result
invariant_of-result c = (subst (λ v. IsAt Start v) (sym c.new.ensures.items) at_start, omega (arith, c.new.ensures.len), tt)
