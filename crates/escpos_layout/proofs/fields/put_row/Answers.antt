use Rattle.escpos_layout.specs.Layouts.{row}
use Rattle.escpos_layout.proofs.Parts.{line_ends, line_stops}
use Rattle.escpos_layout.proofs.fields.put_row.Goals as goal

pub returns-in-Ok : goal.returns-in-Ok
returns-in-Ok c =
    line_ends c.args.encoding.now c.put_fields.new.encoding (row c.args.fields.now) c.args.out.now.items c.put_fields.new.out.items
    c.end_line.new.out.items c.end_line.result c.in-Ok.ensures c.end_line.ensures.ended c.end_line.ensures.kept c.end_line.ensures.memory

pub returns-in-Err : goal.returns-in-Err
returns-in-Err c =
    line_stops c.args.encoding.now c.put_fields.new.encoding (row c.args.fields.now) c.args.out.now.items c.put_fields.new.out.items c.in-Err.fault c.in-Err.ensures
