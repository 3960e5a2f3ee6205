-- The lines are kept back, and are printed at the end.
use Rattle.std.proofs.Common.{inl, refl, []}
use Rattle.escpos_job_parts.proofs.Successes.{succeeded}
use Rattle.escpos_till_jobs.proofs.listing.print_states.Goals as goal

pub returns-in-Ok-clause-tells : goal.returns-in-Ok-clause-tells
returns-in-Ok-clause-tells g c =
    let first = g.W.ByteOut.written c.args.output.now in
    let lines = succeeded c.put_states.result c.if-is_err.ensures.value c.put_states.ensures.ok first [] (c.new-gather.ensures.carries first) in
    let all = succeeded c.put_next.result c.if-is_err-2.ensures.value c.put_next.ensures.ok first _ lines in
    inl (refl, c.in-Ok.ensures.ok first _ all)
