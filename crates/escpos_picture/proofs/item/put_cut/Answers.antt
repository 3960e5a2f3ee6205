use Rattle.std.proofs.Common.{[], refl}
use Rattle.escpos_io.proofs.Giving.{given_in_the_front}
use Rattle.escpos_picture.proofs.GivenSteps.{appended_at, nothing_given}
use Rattle.escpos_picture.proofs.item.put_cut.Goals as goal

pub returns-in_err-room : goal.returns-in_err-room
returns-in_err-room g c =
    given_in_the_front c.from_residual.result c.in_err-room.field-0.0 _ _ _ [] _ _ c.from_residual.ensures.1 c.in_err-room.ensures.given refl

pub returns : goal.returns
returns g c =
    appended_at _ _ _ _ _ _ _ _ _ c.append_cut.new.gather [] _ (nothing_given _ _ _) c.in_ok-room.ensures.given c.append_cut.ensures.kept c.append_cut.ensures.same_count
