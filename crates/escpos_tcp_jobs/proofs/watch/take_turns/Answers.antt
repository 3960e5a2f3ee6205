use Rattle.std.proofs.Common.{ap, arith}
use Rattle.escpos_tcp_jobs.specs.declared.watch.Progress.{Progress}
use Rattle.escpos_tcp_jobs.specs.Watched.{sink, watch_view}
use Rattle.escpos_tcp_jobs.proofs.Watching.{watches_both, watches_none}
use Rattle.escpos_tcp_jobs.proofs.watch.take_turns.Goals as goal

pub loop-init : goal.loop-init
loop-init g c =
    let none = ap (λ (p : Progress). p.written) c.requires.new in
    record {
      watches = watches_none (watch_view c.args.printer.now (g.R.Read.remaining c.args.reader.now) (sink (g.A.ByteOut.written c.args.writer.now) (g.A.ByteOut.failed c.args.writer.now)) (g.C.Conditions.to_say c.args.conditions.now) c.args.paper.now c.args.progress.now);
      few = omega (arith, none);
      most = omega arith;
    }

pub returns-in-Some-clause-watches : goal.returns-in-Some-clause-watches
returns-in-Some-clause-watches g c =
    watches_both (watch_view c.args.printer.now (g.R.Read.remaining c.args.reader.now) (sink (g.A.ByteOut.written c.args.writer.now) (g.A.ByteOut.failed c.args.writer.now)) (g.C.Conditions.to_say c.args.conditions.now) c.args.paper.now c.args.progress.now)
    (watch_view c.loop.printer (g.R.Read.remaining c.loop.reader) (sink (g.A.ByteOut.written c.loop.writer) (g.A.ByteOut.failed c.loop.writer)) (g.C.Conditions.to_say c.loop.conditions) c.loop.paper c.loop.progress)
    (watch_view c.take_turn.new.printer (g.R.Read.remaining c.take_turn.new.reader) (sink (g.A.ByteOut.written c.take_turn.new.writer) (g.A.ByteOut.failed c.take_turn.new.writer)) (g.C.Conditions.to_say c.take_turn.new.conditions) c.take_turn.new.paper c.take_turn.new.progress)
    c.loop.invariant.watches c.take_turn.ensures.watches

pub loop-preserved : goal.loop-preserved
loop-preserved g c =
    let few = c.take_turn.ensures.few in
    let before = c.loop.invariant.few in
    let counted = c.loop-test.true in
    record {
      watches =
          watches_both (watch_view c.args.printer.now (g.R.Read.remaining c.args.reader.now) (sink (g.A.ByteOut.written c.args.writer.now) (g.A.ByteOut.failed c.args.writer.now)) (g.C.Conditions.to_say c.args.conditions.now) c.args.paper.now c.args.progress.now)
          (watch_view c.loop.printer (g.R.Read.remaining c.loop.reader) (sink (g.A.ByteOut.written c.loop.writer) (g.A.ByteOut.failed c.loop.writer)) (g.C.Conditions.to_say c.loop.conditions) c.loop.paper c.loop.progress)
          (watch_view c.take_turn.new.printer (g.R.Read.remaining c.take_turn.new.reader) (sink (g.A.ByteOut.written c.take_turn.new.writer) (g.A.ByteOut.failed c.take_turn.new.writer)) (g.C.Conditions.to_say c.take_turn.new.conditions) c.take_turn.new.paper c.take_turn.new.progress)
          c.loop.invariant.watches c.take_turn.ensures.watches;
      few = omega (arith, few, before);
      most = omega (arith, counted);
    }
