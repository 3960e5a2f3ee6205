-- If there is no room, and the sink fails, it stopped before the line.
use Rattle.std.proofs.Common.{◌+◌, [], refl}
use Rattle.escpos_io.proofs.Giving.{given_in_the_front}
use Rattle.escpos_till_jobs.specs.Lines.{state_line}
use Rattle.escpos_till_jobs.proofs.listing.put_state.Goals as goal

pub returns-in_err-room : goal.returns-in_err-room
returns-in_err-room g c =
    let line = state_line (c.args.place + 1) c.args.state.now in
    given_in_the_front c.from_residual.result c.in_err-room.field-0.0 _ _ _ [] line line c.from_residual.ensures.1 c.in_err-room.ensures.given refl
