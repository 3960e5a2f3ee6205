use Rattle.std.proofs.Common.{ap}
use Rattle.std.specs.Prelude.{Err}
use Rattle.escpos_stream_jobs.specs.Draw.{Draws, IsPicture, IsShortPicture}
use Rattle.escpos_stream_jobs.proofs.Reports.{runs_as, reports_at_device}
use Rattle.escpos_stream_jobs.proofs.Drawings.{draws_at_memory}
use Rattle.escpos_stream_jobs.proofs.draw.draw.Goals as goal

pub returns-in-Err-clause-draws : goal.returns-in-Err-clause-draws
returns-in-Err-clause-draws g c =
    runs_as (Draws c.args.width c.args.pass) (reports_at_device c.args.pass (IsPicture c.args.width c.args.pass) (IsShortPicture c.args.width c.args.pass)) (draws_at_memory c.args.width c.args.pass) c.args.form _ c.in-Err.fault (g.R.ByteIn.to_come c.args.input.now)
    (λ e. c.in-Err.ensures.too_long (ap Err e)) (λ e. c.in-Err.ensures.not_hexadecimal (ap Err e)) (record {
      too_long = c.refuse.ensures.too_long;
      not_hexadecimal = c.refuse.ensures.not_hexadecimal;
      memory = c.refuse.ensures.memory;
      device = λ e. (c.refuse.ensures.device e).0;
    })
