use Rattle.std.proofs.Common.{ap}
use Rattle.std.specs.Prelude.{Err}
use Rattle.escpos_stream_jobs.proofs.Reports.{runs_refused}
use Rattle.escpos_stream_jobs.proofs.job.run.Goals as goal

pub returns-in-Err-clause-runs : goal.returns-in-Err-clause-runs
returns-in-Err-clause-runs g c =
    runs_refused (g.J.Job.shape c.args.width) c.args.pass c.args.form _ c.in-Err.fault (g.R.ByteIn.to_come c.args.input.now)
    (λ e. c.in-Err.ensures.too_long (ap Err e)) (λ e. c.in-Err.ensures.not_hexadecimal (ap Err e)) (record {
      too_long = c.refuse.ensures.too_long;
      not_hexadecimal = c.refuse.ensures.not_hexadecimal;
      memory = c.refuse.ensures.memory;
      device = λ e. (c.refuse.ensures.device e).0;
    })
