use Rattle.std.proofs.Common.{◌∙◌, ◌+◌, refl, sym, ap, subst}
use Rattle.escpos_printer.specs.Feeds.{PrinterView}
use Rattle.escpos_tcp_jobs.specs.declared.watch.Progress.{Progress}
use Rattle.escpos_tcp_jobs.specs.Watched.{Sends, Watches, answered, sink, watch_view}
use Rattle.escpos_tcp_jobs.proofs.Watching.{watches_said}
use Rattle.escpos_tcp_jobs.proofs.watch.look.Goals as goal

pub returns-clause-watches : goal.returns-clause-watches
returns-clause-watches g c = λ r text.
    let p = c.args.printer.now in
    let a = sink (g.A.ByteOut.written c.args.writer.now) (g.A.ByteOut.failed c.args.writer.now) in
    let b = sink (g.A.ByteOut.written c.put_answers.new.writer) (g.A.ByteOut.failed c.put_answers.new.writer) in
    let say = g.C.Conditions.to_say c.args.conditions.now in
    let rest = g.C.Conditions.to_say c.look.new.self in
    let before = c.args.progress.now in
    let after : Progress = record { read = before.read; written = before.written + c.put_answers.result; held = before.held } in
    let sends = subst (λ (q : PrinterView). Sends a b c.put_answers.result q.waiting) c.set_condition.ensures c.put_answers.ensures.sends in
    subst (λ (q : PrinterView). Watches (watch_view p r a say text before) (watch_view q r b rest text after))
    (sym (c.put_answers.ensures.left ∙ ap answered c.set_condition.ensures))
    (watches_said p a b say rest c.look.result r text c.put_answers.result before after c.look.ensures sends refl refl refl)
