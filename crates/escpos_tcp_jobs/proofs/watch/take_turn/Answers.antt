use Rattle.std.proofs.Common.{sym, subst}
use Rattle.escpos_tcp_jobs.specs.Watched.{Watches, sink, watch_view}
use Rattle.escpos_tcp_jobs.proofs.Watching.{watches_both, watches_gone}
use Rattle.escpos_tcp_jobs.proofs.watch.take_turn.Goals as goal

pub returns-then-is_online-clause-watches : goal.returns-then-is_online-clause-watches
returns-then-is_online-clause-watches g c =
    let start = (watch_view c.args.printer.now (g.R.Read.remaining c.args.reader.now) (sink (g.A.ByteOut.written c.args.writer.now) (g.A.ByteOut.failed c.args.writer.now)) (g.C.Conditions.to_say c.args.conditions.now) c.args.paper.now c.args.progress.now) in
    let held = (watch_view c.args.printer.now (g.R.Read.remaining c.hold.new.reader) (sink (g.A.ByteOut.written c.args.writer.now) (g.A.ByteOut.failed c.args.writer.now)) (g.C.Conditions.to_say c.args.conditions.now) c.args.paper.now c.hold.new.progress) in
    let looked = (watch_view c.look.new.printer (g.R.Read.remaining c.hold.new.reader) (sink (g.A.ByteOut.written c.look.new.writer) (g.A.ByteOut.failed c.look.new.writer)) (g.C.Conditions.to_say c.look.new.conditions) c.args.paper.now c.look.new.progress) in
    let offered = (watch_view c.offer-end.new.printer (g.R.Read.remaining c.hold.new.reader) (sink (g.A.ByteOut.written c.offer-end.new.writer) (g.A.ByteOut.failed c.offer-end.new.writer)) (g.C.Conditions.to_say c.look.new.conditions) c.args.paper.now c.offer-end.new.progress) in
    let torn = (watch_view c.tear_off.new.printer (g.R.Read.remaining c.hold.new.reader) (sink (g.A.ByteOut.written c.offer-end.new.writer) (g.A.ByteOut.failed c.offer-end.new.writer)) (g.C.Conditions.to_say c.look.new.conditions) c.tear_off.new.paper c.offer-end.new.progress) in
    let first = c.hold.ensures.watches c.args.printer.now (sink (g.A.ByteOut.written c.args.writer.now) (g.A.ByteOut.failed c.args.writer.now)) (g.C.Conditions.to_say c.args.conditions.now) c.args.paper.now in
    let second = c.look.ensures.watches (g.R.Read.remaining c.hold.new.reader) c.args.paper.now in
    let third = c.offer-end.ensures.watches (g.R.Read.remaining c.hold.new.reader) (g.C.Conditions.to_say c.look.new.conditions) c.args.paper.now in
    let gone = c.tear_off.ensures in
    let last =
    watches_gone gone.0 c.offer-end.new.printer c.tear_off.new.printer (sink (g.A.ByteOut.written c.offer-end.new.writer) (g.A.ByteOut.failed c.offer-end.new.writer))
    (g.C.Conditions.to_say c.look.new.conditions) (g.R.Read.remaining c.hold.new.reader) c.args.paper.now c.tear_off.new.paper c.offer-end.new.progress gone.2 gone.1 in
    watches_both start offered torn (watches_both start looked offered (watches_both start held looked first second) third) last

pub returns-then-is_some-clause-watches : goal.returns-then-is_some-clause-watches
returns-then-is_some-clause-watches g c =
    let start = (watch_view c.args.printer.now (g.R.Read.remaining c.args.reader.now) (sink (g.A.ByteOut.written c.args.writer.now) (g.A.ByteOut.failed c.args.writer.now)) (g.C.Conditions.to_say c.args.conditions.now) c.args.paper.now c.args.progress.now) in
    let held = (watch_view c.args.printer.now (g.R.Read.remaining c.hold.new.reader) (sink (g.A.ByteOut.written c.args.writer.now) (g.A.ByteOut.failed c.args.writer.now)) (g.C.Conditions.to_say c.args.conditions.now) c.args.paper.now c.hold.new.progress) in
    let looked = (watch_view c.look.new.printer (g.R.Read.remaining c.hold.new.reader) (sink (g.A.ByteOut.written c.look.new.writer) (g.A.ByteOut.failed c.look.new.writer)) (g.C.Conditions.to_say c.look.new.conditions) c.args.paper.now c.look.new.progress) in
    let first = c.hold.ensures.watches c.args.printer.now (sink (g.A.ByteOut.written c.args.writer.now) (g.A.ByteOut.failed c.args.writer.now)) (g.C.Conditions.to_say c.args.conditions.now) c.args.paper.now in
    let second = c.look.ensures.watches (g.R.Read.remaining c.hold.new.reader) c.args.paper.now in
    subst (λ say. Watches start
    (watch_view c.look.new.printer (g.R.Read.remaining c.hold.new.reader) (sink (g.A.ByteOut.written c.look.new.writer) (g.A.ByteOut.failed c.look.new.writer)) say c.args.paper.now c.look.new.progress))
    (sym c.pause.ensures) (watches_both start held looked first second)

pub returns-else-is_some-clause-watches : goal.returns-else-is_some-clause-watches
returns-else-is_some-clause-watches g c =
    let start = (watch_view c.args.printer.now (g.R.Read.remaining c.args.reader.now) (sink (g.A.ByteOut.written c.args.writer.now) (g.A.ByteOut.failed c.args.writer.now)) (g.C.Conditions.to_say c.args.conditions.now) c.args.paper.now c.args.progress.now) in
    let held = (watch_view c.args.printer.now (g.R.Read.remaining c.hold.new.reader) (sink (g.A.ByteOut.written c.args.writer.now) (g.A.ByteOut.failed c.args.writer.now)) (g.C.Conditions.to_say c.args.conditions.now) c.args.paper.now c.hold.new.progress) in
    let looked = (watch_view c.look.new.printer (g.R.Read.remaining c.hold.new.reader) (sink (g.A.ByteOut.written c.look.new.writer) (g.A.ByteOut.failed c.look.new.writer)) (g.C.Conditions.to_say c.look.new.conditions) c.args.paper.now c.look.new.progress) in
    let first = c.hold.ensures.watches c.args.printer.now (sink (g.A.ByteOut.written c.args.writer.now) (g.A.ByteOut.failed c.args.writer.now)) (g.C.Conditions.to_say c.args.conditions.now) c.args.paper.now in
    let second = c.look.ensures.watches (g.R.Read.remaining c.hold.new.reader) c.args.paper.now in
    watches_both start held looked first second
