-- Where the sink failed before the line of a row, nothing of the line was given.
use Rattle.std.proofs.Common.{[], refl, arith}
use Rattle.escpos_io.proofs.Giving.{piece_stopped}
use Rattle.escpos_plain.proofs.item.put_plain_item.Goals as goal

pub returns-in_err-room-in-Row : goal.returns-in_err-room-in-Row
returns-in_err-room-in-Row g c =
    piece_stopped _ _ _ _ _ [] _ _ c.from_residual.ensures.1 c.in_err-room-in-Row.ensures.given (omega arith) refl
