use Rattle.std.proofs.Common.{replicate, subst}
use Rattle.escpos_text.specs.Writing.{written}
use Rattle.escpos_layout.specs.Writing.{WritesAs, Stops}
use Rattle.escpos_layout.proofs.Parts.{line_ends, line_stops}
use Rattle.escpos_layout.proofs.lines.put_rule.Goals as goal

pub returns-in-Ok : goal.returns-in-Ok
returns-in-Ok c =
    let line = subst (λ n. WritesAs (written c.args.encoding.now (replicate n c.args.character)) c.args.encoding.now c.args.out.now.items c.put_repeated.new.out.items c.put_repeated.new.encoding)
    c.count.ensures.kept c.in-Ok.ensures in
    line_ends c.args.encoding.now c.put_repeated.new.encoding (replicate c.args.columns c.args.character) c.args.out.now.items c.put_repeated.new.out.items
    c.end_line.new.out.items c.end_line.result line c.end_line.ensures.ended c.end_line.ensures.kept c.end_line.ensures.memory

pub returns-in-Err : goal.returns-in-Err
returns-in-Err c =
    let line = subst (λ n. Stops (written c.args.encoding.now (replicate n c.args.character)) c.args.encoding.now c.args.out.now.items c.put_repeated.new.out.items c.put_repeated.new.encoding c.in-Err.fault)
    c.count.ensures.kept c.in-Err.ensures in
    line_stops c.args.encoding.now c.put_repeated.new.encoding (replicate c.args.columns c.args.character) c.args.out.now.items
    c.put_repeated.new.out.items c.in-Err.fault line
