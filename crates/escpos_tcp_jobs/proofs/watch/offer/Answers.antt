use Rattle.std.proofs.Common.{◌∙◌, ◌+◌, refl, sym, ap, subst}
use Rattle.std.specs.Prelude.{option_to_list}
use Rattle.escpos_printer.specs.Feeds.{PrinterView}
use Rattle.escpos_tcp_jobs.specs.declared.watch.Progress.{Progress}
use Rattle.escpos_tcp_jobs.specs.Watched.{Watches, sink, watch_view}
use Rattle.escpos_tcp_jobs.proofs.Watching.{watches_none, watches_offered}
use Rattle.escpos_tcp_jobs.proofs.watch.offer.Goals as goal

pub returns-in_default-clause-watches : goal.returns-in_default-clause-watches
returns-in_default-clause-watches g c = λ r say text.
    watches_none (watch_view c.args.printer.now r (sink (g.A.ByteOut.written c.args.writer.now) (g.A.ByteOut.failed c.args.writer.now)) say text c.args.progress.now)

pub returns-clause-watches : goal.returns-clause-watches
returns-clause-watches g c = λ r say text.
    let p = c.args.printer.now in
    let a = sink (g.A.ByteOut.written c.args.writer.now) (g.A.ByteOut.failed c.args.writer.now) in
    let b = sink (g.A.ByteOut.written c.put_answers.new.writer) (g.A.ByteOut.failed c.put_answers.new.writer) in
    let before = c.args.progress.now in
    let after : Progress = record { read = before.read; written = before.written + c.put_answers.result; held = c.left_of-progress.result } in
    subst (λ (q : PrinterView). Watches (watch_view p r a say text before) (watch_view q r b say text after))
    (sym c.put_answers.ensures.left)
    (watches_offered p c.feed-fed.new.self a b say r text c.in-Some.byte c.feed-fed.result.consumed c.feed-fed.result.stop c.put_answers.result before after
    c.requires.online c.feed-fed.ensures c.put_answers.ensures.sends refl
    (ap option_to_list c.in-Some.is ∙ c.left_of-progress.ensures c.feed-fed.ensures.within) refl)
