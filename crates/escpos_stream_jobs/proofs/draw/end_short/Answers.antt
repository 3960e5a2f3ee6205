use Rattle.std.proofs.Common.{◌++◌}
use Rattle.escpos_job_parts.specs.Ending.{memory_line}
use Rattle.escpos_job_parts.proofs.Successes.{succeeded}
use Rattle.escpos_stream_jobs.proofs.draw.end_short.Goals as goal

pub returns-clause-says : goal.returns-clause-says
returns-clause-says g c = λ first text carries.
    c.end.ensures.says first (text ++ memory_line) (succeeded c.put.result c.if-is_err.ensures.value c.put.ensures.given.ok first text carries)
