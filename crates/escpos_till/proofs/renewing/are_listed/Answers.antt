-- One after another.
use Rattle.std.proofs.Common.{inl, inr, refl, sym, subst, arith}
use Rattle.std.proofs.lemmas.Option.{get_or_from_slice_get}
use Rattle.escpos_till.specs.Keyed.{Keyed, ListsKey}
use Rattle.escpos_till.proofs.KeyLemmas.{lists_next}
use Rattle.escpos_till.proofs.renewing.are_listed.Goals as goal

pub loop-place-preserved : goal.loop-place-preserved
loop-place-preserved c = λ key number lists.
    let x : Keyed = (c.at-number.result.0.now, c.at-number.result.1) in
    let read = sym (get_or_from_slice_get c.args.keys.now.items c.loop-place.place x x c.at-number.ensures) in
    elim (lists_next c.args.keys.now.items c.loop-place.place x key number (omega (arith, c.loop-place-test.true, c.len-place-end.ensures)) read lists) [
      | inl first ↦ c.loop-place.invariant key number first
      | inr here ↦
          subst (λ k. ListsKey c.args.all.now.items k number) here.0 (subst (λ n. ListsKey c.args.all.now.items x.0 n) here.1 (c.if-not-is_listed.ensures refl))
    ]
