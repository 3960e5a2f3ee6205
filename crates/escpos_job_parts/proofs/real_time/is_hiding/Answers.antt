-- What was found in its bytes is what it hides.
use Rattle.std.proofs.Common.{◌∙◌, sym}
use Rattle.escpos_job_parts.proofs.RealTimeNotes.{hides_what_it_holds, is_held}
use Rattle.escpos_job_parts.proofs.real_time.is_hiding.Goals as goal

pub returns-in_default : goal.returns-in_default
returns-in_default c = is_held c.holds_real_time.result c.args.command.now c.holds_real_time.ensures ∙ sym (hides_what_it_holds c.args.command.now c.in_default.not-Status)
