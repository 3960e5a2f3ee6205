use Rattle.std.proofs.Common.{map, subst}
use Rattle.escpos_layout.specs.declared.row.Side.TheVariants.{Right}
use Rattle.escpos_layout.specs.Layouts.{alone}
use Rattle.escpos_layout.specs.Wrapping.{wrap}
use Rattle.escpos_layout.specs.Writing.{lines_written, Ends}
use Rattle.escpos_layout.proofs.WrappedLines.{is_line, right_ends, right_last, right_stops}
use Rattle.escpos_layout.proofs.wrapped.put_after_left.Goals as goal

pub returns-in-Err : goal.returns-in-Err
returns-in-Err c =
    let first = c.line_from-first in
    right_stops c.args.columns c.args.left.now c.args.right.now c.args.encoding.now c.put_together.new.encoding c.args.out.now.items c.put_together.new.out.items
    first.result c.in-Err.fault first.ensures.start
    (is_line c.args.columns c.args.right.now 0 first.result first.ensures.start first.ensures.end first.ensures.next first.ensures.in_text) c.in-Err.ensures

pub returns-then-first-right : goal.returns-then-first-right
returns-then-first-right c =
    let first = c.line_from-first in
    let rest = subst (λ text. Ends (lines_written c.put_together.new.encoding (map (alone Right c.args.columns) (wrap c.args.columns text)))
    c.put_together.new.encoding c.put_together.new.out.items c.put_wrapped.new.out.items c.put_wrapped.new.encoding c.put_wrapped.result) c.split_at.ensures.back c.put_wrapped.ensures in
    right_ends c.args.columns c.args.left.now c.args.right.now c.args.encoding.now c.put_together.new.encoding c.put_wrapped.new.encoding
    c.args.out.now.items c.put_together.new.out.items c.put_wrapped.new.out.items first.result c.put_wrapped.result first.ensures.start
    (is_line c.args.columns c.args.right.now 0 first.result first.ensures.start first.ensures.end first.ensures.next first.ensures.in_text)
    first.ensures.some c.if-first-right.true c.in-Ok.ensures rest

pub returns-else-first-right : goal.returns-else-first-right
returns-else-first-right c =
    let first = c.line_from-first in
    right_last c.args.columns c.args.left.now c.args.right.now c.args.encoding.now c.put_together.new.encoding c.args.out.now.items c.put_together.new.out.items
    first.result first.ensures.start
    (is_line c.args.columns c.args.right.now 0 first.result first.ensures.start first.ensures.end first.ensures.next first.ensures.in_text)
    c.if-first-right.false c.in-Ok.ensures
