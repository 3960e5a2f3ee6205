use Rattle.escpos_layout.proofs.WrappedLines.{all_end, all_stop}
use Rattle.escpos_layout.proofs.wrapped.put_wrapped.Goals as goal

pub returns-in-Ok : goal.returns-in-Ok
returns-in-Ok c =
    all_end c.args.side c.args.columns c.args.text.now c.args.encoding.now c.put_all_but_last.new.encoding c.put_alone.new.encoding c.args.out.now.items
    c.put_all_but_last.new.out.items c.put_alone.new.out.items c.in-Ok.last c.put_alone.result c.in-Ok.ensures c.put_alone.ensures

pub returns-in-Err : goal.returns-in-Err
returns-in-Err c =
    all_stop c.args.side c.args.columns c.args.text.now c.args.encoding.now c.put_all_but_last.new.encoding c.args.out.now.items
    c.put_all_but_last.new.out.items c.in-Err.fault c.in-Err.ensures
