use Rattle.escpos_printer.specs.Serves.{link}
use Rattle.escpos_tcp_jobs.proofs.TornParts.{torn_part}
use Rattle.escpos_tcp_jobs.proofs.emulate.serve_part.Goals as goal

pub returns-clause-served : goal.returns-clause-served
returns-clause-served g c =
    let reached = c.items.ensures.reached in
    let torn = c.tear_off.ensures in
    let served = link (g.R.ByteIn.to_come c.args.reader.now) (g.R.ByteIn.to_come c.serve_link-served.new.reader) (g.A.ByteOut.written c.args.writer.now)
    (g.A.ByteOut.written c.serve_link-served.new.writer) in
    torn_part c.paper_above.ensures c.args.printer.now c.serve_link-served.new.printer c.tear_off.new.printer served 16384 c.serve_link-served.result c.args.paper.now
    c.tear_off.new.self torn.0 _ reached.0 reached.1 reached.2 c.serve_link-served.ensures.served torn.1 torn.2
