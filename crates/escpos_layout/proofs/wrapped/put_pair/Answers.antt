use Rattle.escpos_layout.proofs.WrappedLines.{pair_ends, pair_stops}
use Rattle.escpos_layout.proofs.wrapped.put_pair.Goals as goal

pub returns-in-Ok : goal.returns-in-Ok
returns-in-Ok c =
    pair_ends c.args.columns c.args.left.now c.args.right.now c.args.encoding.now c.put_all_but_last.new.encoding c.put_after_left.new.encoding c.args.out.now.items
    c.put_all_but_last.new.out.items c.put_after_left.new.out.items c.in-Ok.last c.put_after_left.result c.in-Ok.ensures c.put_after_left.ensures

pub returns-in-Err : goal.returns-in-Err
returns-in-Err c =
    pair_stops c.args.columns c.args.left.now c.args.right.now c.args.encoding.now c.put_all_but_last.new.encoding c.args.out.now.items
    c.put_all_but_last.new.out.items c.in-Err.fault c.in-Err.ensures
