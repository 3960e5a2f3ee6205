-- The note follows the line.
use Rattle.std.proofs.Common.{refl}
use Rattle.escpos_io.proofs.Giving.{given_in_the_front, given_in_turn}
use Rattle.escpos_job_parts.specs.Lines.{own_line}
use Rattle.escpos_job_parts.specs.RealTimeNotes.{real_time_note}
use Rattle.escpos_job_parts.proofs.lines.put_line.Goals as goal

pub returns-in_err-put_own_line : goal.returns-in_err-put_own_line
returns-in_err-put_own_line g c =
    given_in_the_front c.from_residual.result c.in_err-put_own_line.field-0.0 _ _ _ (own_line c.args.place c.args.command.now) (real_time_note c.args.place c.args.command.now) _
    c.from_residual.ensures.1 c.in_err-put_own_line.ensures refl

pub returns : goal.returns
returns g c =
    given_in_turn c.put_note.result _ _ _ _ _ _ _ _ _ (own_line c.args.place c.args.command.now) (real_time_note c.args.place c.args.command.now) _
    c.in_ok-put_own_line.ensures c.put_note.ensures refl
