use Rattle.std.proofs.Common.{inl, refl, sym, subst}
use Rattle.escpos_io.specs.Gather.{Carries}
use Rattle.escpos_job_parts.proofs.Successes.{succeeded}
use Rattle.escpos_stream_jobs.proofs.job.finish.Goals as goal

pub returns-in-Ok-clause-says : goal.returns-in-Ok-clause-says
returns-in-Ok-clause-says g c = λ width start ts new taken.
    let first = g.W.ByteOut.written start.1 in
    let text = (g.J.Job.shape width).gives ts in
    let carried =
    subst (λ gather. Carries first (g.W.ByteOut.written c.args.output.now) gather text)
    (sym c.into_gather-gather.ensures) (g.met.J.Job.carried width start _ ts new taken) in
    let given = succeeded c.put_closing.result c.if-is_err.ensures.value c.put_closing.ensures.given first text carried in
    record { ends = inl refl; out = λ well. c.in-Ok.ensures.ok first _ given }
