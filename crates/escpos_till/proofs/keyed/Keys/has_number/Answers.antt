-- One after another.
use Rattle.std.proofs.Common.{◌≡◌, true, false, refl, sym, ◌∙◌, arith}
use Rattle.std.proofs.lemmas.Option.{get_or_from_slice_get}
use Rattle.escpos_till.specs.Keyed.{Keyed}
use Rattle.escpos_till.proofs.KeyLemmas.{no_number_so_far, number_at}
use Rattle.escpos_till.proofs.keyed.Keys.has_number.Goals as goal

pub returns-then-is_same : goal.returns-then-is_same
returns-then-is_same c =
    let x : Keyed = (c.at-other.result.0.now, c.at-other.result.1) in (
      λ yes. number_at c.args.self.now.items c.loop-place.place x c.args.number (omega (arith, c.loop-place-test.true, c.len-place-end.ensures))
          (sym (get_or_from_slice_get c.args.self.now.items c.loop-place.place x x c.at-other.ensures)) (c.is_same.ensures.0 c.if-is_same.true),
      λ lists. refl,
    )

pub loop-place-preserved : goal.loop-place-preserved
loop-place-preserved c =
    let x : Keyed = (c.at-other.result.0.now, c.at-other.result.1) in
    no_number_so_far c.args.self.now.items c.loop-place.place x c.args.number (omega (arith, c.loop-place-test.true, c.len-place-end.ensures))
    (sym (get_or_from_slice_get c.args.self.now.items c.loop-place.place x x c.at-other.ensures)) c.loop-place.invariant
    (λ is. let bad : true ≡ false = sym (c.is_same.ensures.1 is) ∙ c.if-is_same.false in cc)
