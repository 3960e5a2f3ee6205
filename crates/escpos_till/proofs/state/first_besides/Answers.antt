-- The next one that waits, where the first is left out; and else the first.
use Rattle.std.proofs.Common.{inl, inr, arith}
use Rattle.escpos_till.proofs.StateLemmas.{besides_other}
use Rattle.escpos_till.proofs.state.first_besides.Goals as goal

pub returns : goal.returns
returns c =
    besides_other c.args.states.now c.args.first c.args.skipped c.requires (λ same less. elim c.else-skipped-first.either [
      | inl (is, past) ↦ omega (arith, less, past)
      | inr other ↦ other same
    ])
