-- One after another.
use Rattle.std.proofs.Common.{◌+◌, ◌<◌, ◌⊎◌, inl, inr, length, refl, sym, subst, arith}
use Rattle.std.proofs.lemmas.Option.{get_or_from_slice_get}
use Rattle.escpos_till.specs.declared.renewing.TheConstants.{KEYS_KEPT}
use Rattle.escpos_till.specs.Keyed.{Keyed, ListsKey}
use Rattle.escpos_till.proofs.KeyLemmas.{lists_next}
use Rattle.escpos_till.proofs.renewing.has_kept_keys.Goals as goal

pub loop-place-preserved : goal.loop-place-preserved
loop-place-preserved c = λ key number lists kept.
    let b = c.args.book.now in
    let x : Keyed = (c.at-number.result.0.now, c.at-number.result.1) in
    let read = sym (get_or_from_slice_get b.keys.items c.loop-place.place x x c.at-number.ensures) in
    elim (lists_next b.keys.items c.loop-place.place x key number (omega (arith, c.loop-place-test.true, c.len-place-end.ensures)) read lists) [
      | inl first ↦ c.loop-place.invariant key number first kept
      | inr here ↦
          subst (λ k. ListsKey c.args.found.now.items k number) here.0 (subst (λ n. ListsKey c.args.found.now.items x.0 n) here.1
          (c.if-not-is_kept_in.ensures refl (subst (λ n. (c.args.last < n) ⊎ (b.earlier + length b.states.items < n + KEYS_KEPT)) (sym here.1) kept)))
    ]
