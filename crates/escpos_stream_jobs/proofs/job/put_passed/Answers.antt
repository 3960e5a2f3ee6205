use Rattle.std.proofs.Common.{[], refl}
use Rattle.escpos_io.proofs.Giving.{given_in_the_front}
use Rattle.escpos_stream_jobs.proofs.job.put_passed.Goals as goal

pub returns-in_err-room : goal.returns-in_err-room
returns-in_err-room g c =
    given_in_the_front c.from_residual.result c.in_err-room.field-0.0 _ _ _ [] _ _ c.from_residual.ensures.1 c.in_err-room.ensures.given refl
