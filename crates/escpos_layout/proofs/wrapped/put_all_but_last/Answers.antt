use Rattle.escpos_layout.proofs.WrappedLines.{is_line, none_begun, begun_more, begun_stops, begun_last}
use Rattle.escpos_layout.proofs.wrapped.put_all_but_last.Goals as goal

pub loop-line-init : goal.loop-line-init
loop-line-init c =
    let first = c.line_from-line in
    none_begun c.args.side c.args.columns c.args.text.now c.args.encoding.now c.args.out.now.items first.result first.ensures.start
    (is_line c.args.columns c.args.text.now 0 first.result first.ensures.start first.ensures.end first.ensures.next first.ensures.in_text)

pub returns-in-Err : goal.returns-in-Err
returns-in-Err c =
    begun_stops c.args.side c.args.columns c.args.text.now c.args.encoding.now c.loop-line.encoding c.put_alone.new.encoding c.args.out.now.items c.loop-line.out.items
    c.put_alone.new.out.items c.loop-line.line c.in-Err.fault c.loop-line.invariant c.line_from-line.ensures.some c.loop-line-test.true c.in-Err.ensures

pub loop-line-preserved : goal.loop-line-preserved
loop-line-preserved c =
    let next = c.line_from-line-in-loop-line in
    begun_more c.args.side c.args.columns c.args.text.now c.args.encoding.now c.loop-line.encoding c.put_alone.new.encoding c.args.out.now.items c.loop-line.out.items
    c.put_alone.new.out.items c.loop-line.line next.result c.loop-line.invariant c.line_from-line.ensures.some c.loop-line-test.true c.in-Ok.ensures next.ensures.start
    (is_line c.args.columns c.args.text.now c.loop-line.line.next next.result next.ensures.start next.ensures.end next.ensures.next next.ensures.in_text)

pub returns : goal.returns
returns c =
    begun_last c.args.side c.args.columns c.args.text.now c.args.encoding.now c.loop-line.encoding c.args.out.now.items c.loop-line.out.items
    c.loop-line.line c.loop-line.invariant c.loop-line-test.false
