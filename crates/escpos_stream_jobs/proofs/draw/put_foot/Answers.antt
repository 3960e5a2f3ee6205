-- A document ends with a line and its end, or with its end alone.
use Rattle.std.proofs.Common.{◌++◌, sym, ◌∙◌, subst}
use Rattle.escpos_io.specs.Gather.{Carries}
use Rattle.escpos_stream_jobs.specs.Draw.{under_text}
use Rattle.escpos_stream_jobs.proofs.Drawings.{on_given, foot_with, foot_without}
use Rattle.escpos_stream_jobs.proofs.draw.put_foot.Goals as goal

pub returns-then-has_line-clause-given : goal.returns-then-has_line-clause-given
returns-then-has_line-clause-given g c =
    let is = foot_with c.args.down (under_text c.args.under) (sym c.has_line.ensures ∙ c.if-has_line.true) in
    on_given c.put_last_line.result c.put_last_line.ensures.given (λ ok first text carries.
    subst (λ t. Carries first (g.W.ByteOut.written c.put_last_line.new.output) c.put_last_line.new.gather (text ++ t)) (sym is) (ok first text carries))

pub returns-else-has_line-clause-given : goal.returns-else-has_line-clause-given
returns-else-has_line-clause-given g c =
    let is = foot_without c.args.down (under_text c.args.under) (sym c.has_line.ensures ∙ c.if-has_line.false) in
    on_given c.put.result c.put.ensures.given.ok (λ ok first text carries.
    subst (λ t. Carries first (g.W.ByteOut.written c.put.new.writer) c.put.new.self (text ++ t)) (sym is) (ok first text carries))
