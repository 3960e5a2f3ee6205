use Rattle.std.proofs.Common.{arith, refl}
use Rattle.escpos_command_tests.proofs.pieces.DoubledPiece.put.Goals as goal

pub returns-in_err-room : goal.returns-in_err-room
returns-in_err-room g c = c.piece_stopped.ensures _ _ _ _ _ _ _ _ c.from_residual.ensures.1 c.in_err-room.ensures.given (omega arith) refl
