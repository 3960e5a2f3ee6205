use Rattle.std.proofs.Common.{◌∙◌, ◌+◌, length, sym, ap, subst, arith}
use Rattle.escpos_printer.specs.Feeds.{PrinterView}
use Rattle.escpos_tcp_jobs.specs.Watched.{sink}
use Rattle.escpos_tcp_jobs.proofs.Watching.{SentSoFar, sent_next, taken_first}
use Rattle.escpos_tcp_jobs.proofs.watch.put_answers.Goals as goal

pub loop-answer-preserved : goal.loop-answer-preserved
loop-answer-preserved g c =
    let waiting = c.loop-answer.printer.waiting in
    let first = taken_first waiting c.in-Some.answer (sym c.in-Some.is ∙ c.take_answer.ensures.answer) in
    let left = ap (λ (p : PrinterView). p.waiting) c.take_answer.ensures.left in
    let long = ap length first in
    let short = ap length left in
    let few = c.put_answer-count.ensures.few in
    let room = c.loop-answer.invariant.few in
    let start = sink (g.A.ByteOut.written c.args.writer.now) (g.A.ByteOut.failed c.args.writer.now) in
    let end = sink (g.A.ByteOut.written c.put_answer-count.new.writer) (g.A.ByteOut.failed c.put_answer-count.new.writer) in
    record {
      sent =
          subst (SentSoFar start end (c.loop-answer.count + c.put_answer-count.result) c.args.printer.now.waiting) (sym left)
          (sent_next start (sink (g.A.ByteOut.written c.loop-answer.writer) (g.A.ByteOut.failed c.loop-answer.writer))
          end c.loop-answer.count c.put_answer-count.result
          c.args.printer.now.waiting waiting c.in-Some.answer (sym c.in-Some.is ∙ c.take_answer.ensures.answer) c.loop-answer.invariant.sent c.put_answer-count.ensures.sends);
      few = omega (arith, long, short, few, room);
      sheet = ap (λ (p : PrinterView). p.sheet) c.take_answer.ensures.left ∙ c.loop-answer.invariant.sheet;
      half = ap (λ (p : PrinterView). p.half) c.take_answer.ensures.left ∙ c.loop-answer.invariant.half;
      condition = ap (λ (p : PrinterView). p.condition) c.take_answer.ensures.left ∙ c.loop-answer.invariant.condition;
      automatic = ap (λ (p : PrinterView). p.automatic) c.take_answer.ensures.left ∙ c.loop-answer.invariant.automatic;
    }
