use Rattle.std.proofs.Common.{◌++◌}
use Rattle.escpos_picture.specs.Document.{foot}
use Rattle.escpos_stream_jobs.specs.Draw.{under_text}
use Rattle.escpos_job_parts.proofs.Successes.{succeeded}
use Rattle.escpos_stream_jobs.proofs.draw.finish.Goals as goal

pub returns-clause-says : goal.returns-clause-says
returns-clause-says g c = λ first text carries.
    c.end.ensures.says first (text ++ foot c.args.drawing.down (under_text c.args.under))
    (succeeded c.put_foot.result c.if-is_err.ensures.value c.put_foot.ensures.given first text carries)
