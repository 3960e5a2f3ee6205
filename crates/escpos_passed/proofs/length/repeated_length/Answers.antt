use Rattle.std.proofs.Common.{◌+◌, ◌-◌, length, take, drop, arith, subst, sym, ◌∙◌}
use Rattle.escpos_passed.specs.Lengths.{repeated_length}
use Rattle.escpos_passed.proofs.LengthLoops.{Left, part_more}
use Rattle.escpos_passed.proofs.length.repeated_length.Goals as goal

pub loop-left-preserved : goal.loop-left-preserved
loop-left-preserved c =
    let rest = c.loop-left.rest.now in
    let whole = repeated_length c.args.counted c.args.times c.args.bytes.now in
    record {
      few = omega (arith, c.loop-left.invariant.few);
      sum =
          subst (λ i. Left whole (c.loop-left.at + c.in-Some.one) (repeated_length c.args.counted (c.loop-left.left - 1) (take (length rest - i) (drop i rest)))) (sym c.min.ensures)
          (part_more c.args.counted c.loop-left.left c.loop-left.at c.in-Some.one rest whole c.loop-left-test.true (sym c.counted_length.ensures.value ∙ c.in-Some.is) c.loop-left.invariant.sum);
      small = omega (arith, c.loop-left.invariant.small, c.loop-left.invariant.few, c.loop-left-test.true, c.in-Some.ensures.small);
    }
