-- Why a receipt isn't cancelled, with its number.
use Rattle.std.proofs.Common.{refl}
use Rattle.std.specs.Prelude.{codes}
use Rattle.escpos_till.specs.declared.note.TillRefusal.TheVariants as refusal
use Rattle.escpos_till_jobs.specs.Lines.{number_line}
use Rattle.escpos_till_jobs.proofs.RefusalLines.{tells_number}
use Rattle.escpos_till_jobs.proofs.outcome.tell_refusal.Goals as goal

pub returns-in-NotTaken-clause-tells : goal.returns-in-NotTaken-clause-tells
returns-in-NotTaken-clause-tells g c =
    tells_number _ (number_line (codes "refused NotTaken ")) refusal.NotTaken c.args.why c.in-NotTaken.number c.get-in-NotTaken.result c.in-NotTaken.is c.get-in-NotTaken.ensures.value refl refl
    c.tell_number-in-NotTaken.ensures.tells

pub returns-in-Earlier-clause-tells : goal.returns-in-Earlier-clause-tells
returns-in-Earlier-clause-tells g c =
    tells_number _ (number_line (codes "refused Earlier ")) refusal.Earlier c.args.why c.in-Earlier.number c.get-in-Earlier.result c.in-Earlier.is c.get-in-Earlier.ensures.value refl refl
    c.tell_number-in-Earlier.ensures.tells

pub returns-in-Recorded-clause-tells : goal.returns-in-Recorded-clause-tells
returns-in-Recorded-clause-tells g c =
    tells_number _ (number_line (codes "refused Recorded ")) refusal.Recorded c.args.why c.in-Recorded.number c.get-in-Recorded.result c.in-Recorded.is c.get-in-Recorded.ensures.value refl refl
    c.tell_number-in-Recorded.ensures.tells

pub returns-in-Cancelled-clause-tells : goal.returns-in-Cancelled-clause-tells
returns-in-Cancelled-clause-tells g c =
    tells_number _ (number_line (codes "refused Cancelled ")) refusal.Cancelled c.args.why c.in-Cancelled.number c.get-in-Cancelled.result c.in-Cancelled.is c.get-in-Cancelled.ensures.value refl refl
    c.tell_number-in-Cancelled.ensures.tells
