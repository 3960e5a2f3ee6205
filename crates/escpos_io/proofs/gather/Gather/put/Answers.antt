use Rattle.std.proofs.Common.{refl}
use Rattle.escpos_io.proofs.Giving.{given_in_turn, given_in_the_front}
use Rattle.escpos_io.proofs.gather.Gather.put.Goals as goal

pub returns-in_err-flush-clause-given : goal.returns-in_err-flush-clause-given
returns-in_err-flush-clause-given g c = given_in_the_front _ _ _ _ _ _ _ _ c.from_residual.ensures.1 c.in_err-flush.ensures.given refl

pub returns-then-bytes-gt-GATHERED_BYTES-clause-given : goal.returns-then-bytes-gt-GATHERED_BYTES-clause-given
returns-then-bytes-gt-GATHERED_BYTES-clause-given g c = given_in_turn _ _ _ _ _ _ _ _ _ _ _ _ _ c.in_ok-flush.ensures.given c.put_large.ensures.given refl

pub returns-in_err-room-clause-given : goal.returns-in_err-room-clause-given
returns-in_err-room-clause-given g c =
    given_in_the_front _ _ _ _ _ _ _ _ c.from_residual-in_err-room.ensures.1 c.in_err-room.ensures.given refl
