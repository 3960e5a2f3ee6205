use Rattle.std.proofs.Common.{◌++◌, append_assoc, subst}
use Rattle.escpos_io.specs.Gather.{Carries}
use Rattle.escpos_job_parts.specs.LastText.{last_text}
use Rattle.escpos_stream_jobs.specs.Draw.{passed_words}
use Rattle.escpos_stream_jobs.proofs.Drawings.{on_given}
use Rattle.escpos_stream_jobs.proofs.draw.put_under.Goals as goal

pub returns-clause-given : goal.returns-clause-given
returns-clause-given g c = on_given c.put.result c.put.ensures.ok (λ ok first text carries.
    let words = passed_words c.args.under.passed in
    let line = last_text c.args.under.last in
    subst (Carries first (g.W.ByteOut.written c.put.new.writer) c.put.new.gather) (append_assoc text words line)
    (ok first (text ++ words) (c.in_ok-put_words.ensures.ok first text carries)))
