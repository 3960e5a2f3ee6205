use Rattle.std.proofs.Common.{◌≡◌, true, false, sym, ◌∙◌, arith}
use Rattle.escpos_link.proofs.Moving.{empty_of, left_count, moved_more, none_left}
use Rattle.escpos_link.proofs.wire.put_all_out.Goals as goal

pub loop-moved-preserved : goal.loop-moved-preserved
loop-moved-preserved c =
    let i = c.loop-moved.invariant in
    let more = c.put_out.new in
    let left = left_count c.args.host.now c.loop-moved.host c.args.live.now c.loop-moved.live c.loop-moved.moved i.has_moved in
    let count = c.in_ok-moved.ensures.count in
    record {
      has_moved = moved_more c.args.host.now c.loop-moved.host more.host c.args.live.now c.loop-moved.live more.live c.loop-moved.moved c.in_ok-moved.field-0 i.has_moved c.in_ok-moved.ensures.moved;
      most = omega (arith, count, i.most);
      within = omega (arith, count, left, i.within);
    }

pub returns-else-has_out-clause-count : goal.returns-else-has_out-clause-count
returns-else-has_out-clause-count c =
    let i = c.loop-moved.invariant in
    none_left c.args.host.now c.loop-moved.host c.args.live.now c.loop-moved.live c.loop-moved.moved c.args.most i.has_moved i.most i.within
    (empty_of c.loop-moved.host.out (λ some. let out = c.has_out.ensures.1 some in let bad : true ≡ false = sym out ∙ c.if-has_out.false in cc))
