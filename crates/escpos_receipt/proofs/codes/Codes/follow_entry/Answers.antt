use Rattle.std.proofs.Common.{◌≡◌, true, false, refl, sym, ◌∙◌, ap}
use Rattle.escpos_receipt.specs.CodeSteps.{code_settings_after}
use Rattle.escpos_receipt.specs.Printable.{code_settings, is_left_out}
use Rattle.escpos_receipt.proofs.Printables.{code_settings-snoc, line_printable, not_printed, one_more_printable, printed, text_printable}
use Rattle.escpos_receipt.proofs.codes.Codes.follow_entry.Goals as goal

pub returns-in-Text-clause-printable : goal.returns-in-Text-clause-printable
returns-in-Text-clause-printable c = λ _ before same each.
    let after = text_printable c.args.width before c.in-Text.text c.in_order.ensures each in
    rw c.in-Text.is (after.0, same ∙ sym after.1)

pub returns-in-Line-clause-printable : goal.returns-in-Line-clause-printable
returns-in-Line-clause-printable c = λ _ before same each.
    let after = line_printable c.args.width before c.in-Line.text c.in_order-in-Line.ensures each in
    rw c.in-Line.is (after.0, same ∙ sym after.1)

pub returns-in-Command-clause-printable : goal.returns-in-Command-clause-printable
returns-in-Command-clause-printable c = λ is before same each.
    let x = c.in-Command.command in
    rw c.in-Command.is (
      one_more_printable c.args.width before x each
          (ap (λ s. is_left_out c.args.width s x) (sym same) ∙ sym c.leaves_out-is_printed.ensures ∙ printed c.leaves_out-is_printed.result is),
      c.follow.ensures ∙ ap (λ s. code_settings_after s x) same ∙ sym (code_settings-snoc before x),
    )

pub returns-in-Command-clause-left_out : goal.returns-in-Command-clause-left_out
returns-in-Command-clause-left_out c = λ is before following same each.
    let x = c.in-Command.command in
    let out : is_left_out c.args.width (code_settings before) x ≡ false = (rw c.in-Command.is at each) before x following refl in
    let clash : true ≡ false =
    sym (not_printed c.leaves_out-is_printed.result is) ∙ c.leaves_out-is_printed.ensures ∙ ap (λ s. is_left_out c.args.width s x) same ∙ out in
    cc
