-- What the link printed is what was torn off and what still stands on the paper.
use Rattle.std.proofs.Common.{◌++◌, [], ℕ, List, ap, subst}
use Rattle.std.specs.Io.KnownBytes.{Appends}
use Rattle.std.proofs.KnownBytes.{Appends-trans}
use Rattle.escpos_paper.specs.ItemsText.{items_text}
use Rattle.escpos_printer.specs.Feeds.{PrinterView}
use Rattle.escpos_tcp_jobs.specs.Watched.{WatchesLink, sink, watch_view}
use Rattle.escpos_tcp_jobs.proofs.watched_link.follow_watched.Goals as goal

pub returns-clause-watches : goal.returns-clause-watches
returns-clause-watches g c =
    let text = ap (λ items. c.watch_and_tell.new.paper ++ items_text items) c.items.ensures.items in (
      c.watch_and_tell.new.printer,
      c.watch_and_tell.new.paper,
      subst (λ (q : PrinterView). WatchesLink (watch_view q (g.R.Read.remaining c.args.reader.now) (sink (g.A.ByteOut.written c.args.writer.now) (g.A.ByteOut.failed c.args.writer.now)) (g.C.Conditions.to_say c.args.conditions.now) []) (watch_view c.watch_and_tell.new.printer (g.R.Read.remaining c.watch_and_tell.new.reader) (sink (g.A.ByteOut.written c.watch_and_tell.new.writer) (g.A.ByteOut.failed c.watch_and_tell.new.writer)) (g.C.Conditions.to_say c.watch_and_tell.new.conditions) c.watch_and_tell.new.paper) c.in_ok-served.served) c.tear_off.ensures
          (subst (λ (t : List ℕ). WatchesLink (watch_view c.tear_off.new.self (g.R.Read.remaining c.args.reader.now) (sink (g.A.ByteOut.written c.args.writer.now) (g.A.ByteOut.failed c.args.writer.now)) (g.C.Conditions.to_say c.args.conditions.now) t) (watch_view c.watch_and_tell.new.printer (g.R.Read.remaining c.watch_and_tell.new.reader) (sink (g.A.ByteOut.written c.watch_and_tell.new.writer) (g.A.ByteOut.failed c.watch_and_tell.new.writer)) (g.C.Conditions.to_say c.watch_and_tell.new.conditions) c.watch_and_tell.new.paper) c.in_ok-served.served) c.new-paper.ensures
          c.in_ok-served.ensures.watches),
      c.tear_off-2.ensures,
      Appends-trans (g.W.ByteOut.written c.args.output.now) (g.W.ByteOut.written c.watch_and_tell.new.output) (g.W.ByteOut.written c.put_above.new.output) _ _ c.in_ok-served.ensures.told
          (subst (Appends (g.W.ByteOut.written c.watch_and_tell.new.output) (g.W.ByteOut.written c.put_above.new.output)) text c.in_ok-put_above.ensures.put),
    )
