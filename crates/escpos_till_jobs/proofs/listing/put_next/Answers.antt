-- If there is no room, and the sink fails, it stopped before the line.
use Rattle.std.proofs.Common.{[], refl}
use Rattle.escpos_till_jobs.specs.Lines.{next_line}
use Rattle.escpos_io.proofs.Giving.{given_in_the_front}
use Rattle.escpos_till_jobs.proofs.listing.put_next.Goals as goal

pub returns-in_err-room : goal.returns-in_err-room
returns-in_err-room g c =
    let line = next_line c.args.next in
    given_in_the_front c.from_residual.result c.in_err-room.field-0.0 _ _ _ [] line line c.from_residual.ensures.1 c.in_err-room.ensures.given refl
