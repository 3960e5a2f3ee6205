use Rattle.std.proofs.Common.{arith, refl}
use Rattle.escpos_io.proofs.Giving.{piece_stopped}
use Rattle.escpos_job_parts.proofs.lines.LastPiece.put.Goals as goal

pub returns-in_err-room : goal.returns-in_err-room
returns-in_err-room g c = piece_stopped _ _ _ _ _ _ _ _ c.from_residual.ensures.1 c.in_err-room.ensures.given (omega arith) refl
