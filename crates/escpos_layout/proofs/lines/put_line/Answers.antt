use Rattle.escpos_layout.specs.Layouts.{between}
use Rattle.escpos_layout.proofs.Parts.{line_ends, line_stops}
use Rattle.escpos_layout.proofs.lines.put_line.Goals as goal

pub returns-in-Ok : goal.returns-in-Ok
returns-in-Ok c =
    line_ends c.args.encoding.now c.put_between.new.encoding (between c.args.columns c.args.left.now c.args.right.now) c.args.out.now.items c.put_between.new.out.items
    c.end_line.new.out.items c.end_line.result c.in-Ok.ensures c.end_line.ensures.ended c.end_line.ensures.kept c.end_line.ensures.memory

pub returns-in-Err : goal.returns-in-Err
returns-in-Err c =
    line_stops c.args.encoding.now c.put_between.new.encoding (between c.args.columns c.args.left.now c.args.right.now) c.args.out.now.items
    c.put_between.new.out.items c.in-Err.fault c.in-Err.ensures
