use Rattle.std.proofs.Common.{◌<◌, length, arith, subst, sym}
use Rattle.escpos_passed.proofs.LengthLoops.{Left, until_none, until_hit, until_miss}
use Rattle.std.proofs.Common.{◌+◌, drop}
use Rattle.escpos_passed.specs.Lengths.{length_until}
use Rattle.escpos_passed.proofs.length.length_until.Goals as goal
use Rattle.escpos_passed.proofs.length.length_until.Goals.{then-bytes-at, else-bytes-at}

pub returns-then-at-bytes : goal.returns-then-at-bytes
returns-then-at-bytes c = until_none c.args.end c.loop-left.left c.args.bytes.now c.loop-left.at _ c.if-at-bytes.true c.loop-left-test.true c.loop-left.invariant.rest

pub loop-left-preserved : goal.loop-left-preserved
loop-left-preserved c =
    let bytes = c.args.bytes.now in
    let at = c.loop-left.at in
    let whole = length_until c.args.end c.args.times bytes in
    let within : at < length bytes = omega (arith, c.loop-left.invariant.inside, c.if-at-bytes.false) in
    record {
      inside = omega (arith, within);
      rest = elim c.if-bytes-at.branch [
        | then-bytes-at w ↦
            subst (λ n. Left whole (at + 1) (length_until c.args.end n (drop (at + 1) bytes))) (sym w.left-is)
            (until_hit c.args.end c.loop-left.left bytes at whole within c.loop-left-test.true w.if-bytes-at.true c.loop-left.invariant.rest)
        | else-bytes-at w ↦
            subst (λ n. Left whole (at + 1) (length_until c.args.end n (drop (at + 1) bytes))) (sym w.left-is)
            (until_miss c.args.end c.loop-left.left bytes at whole within c.loop-left-test.true w.if-bytes-at.false c.loop-left.invariant.rest)
      ];
    }
