use Rattle.std.proofs.Common.{◌∙◌, sym, ap}
use Rattle.escpos_printer.specs.declared.serve.Served.{Served}
use Rattle.escpos_tcp_jobs.specs.Watched.{begun, served_by, sink, watch_view}
use Rattle.escpos_tcp_jobs.proofs.Watching.{watches_both, watches_gone}
use Rattle.escpos_tcp_jobs.proofs.watch.watch_link.Goals as goal

pub returns-clause-watches : goal.returns-clause-watches
returns-clause-watches g c =
    let progress = c.take_turns-end.new.progress in
    let torn = c.tear_off.ensures in
    record {
      progress = progress;
      told = c.served.ensures ∙ ap (served_by progress) (sym (ap (λ (s : Served). s.end) c.served.ensures));
      watches =
          watches_both (watch_view c.args.printer.now (g.R.Read.remaining c.args.reader.now) (sink (g.A.ByteOut.written c.args.writer.now) (g.A.ByteOut.failed c.args.writer.now)) (g.C.Conditions.to_say c.args.conditions.now) c.args.paper.now begun)
          (watch_view c.take_turns-end.new.printer (g.R.Read.remaining c.take_turns-end.new.reader) (sink (g.A.ByteOut.written c.take_turns-end.new.writer) (g.A.ByteOut.failed c.take_turns-end.new.writer)) (g.C.Conditions.to_say c.take_turns-end.new.conditions) c.take_turns-end.new.paper progress)
          (watch_view c.tear_off.new.printer (g.R.Read.remaining c.take_turns-end.new.reader) (sink (g.A.ByteOut.written c.take_turns-end.new.writer) (g.A.ByteOut.failed c.take_turns-end.new.writer)) (g.C.Conditions.to_say c.take_turns-end.new.conditions) c.tear_off.new.self progress)
          c.take_turns-end.ensures.watches
          (watches_gone torn.0 c.take_turns-end.new.printer c.tear_off.new.printer
          (sink (g.A.ByteOut.written c.take_turns-end.new.writer) (g.A.ByteOut.failed c.take_turns-end.new.writer))
          (g.C.Conditions.to_say c.take_turns-end.new.conditions) (g.R.Read.remaining c.take_turns-end.new.reader) c.take_turns-end.new.paper c.tear_off.new.self progress
          torn.2 torn.1);
    }
