use Rattle.std.proofs.Common.{[], refl}
use Rattle.escpos_io.proofs.Giving.{given_in_the_front}
use Rattle.escpos_job_parts.proofs.lines.put_own_line.Goals as goal

pub returns-in-QrStore : goal.returns-in-QrStore
returns-in-QrStore g c = rw c.in-QrStore.is c.put_store.ensures

pub returns-in_err-room-in_default : goal.returns-in_err-room-in_default
returns-in_err-room-in_default g c =
    given_in_the_front c.from_residual.result c.in_err-room-in_default.field-0.0 _ _ _ [] _ _ c.from_residual.ensures.1 c.in_err-room-in_default.ensures.given refl
