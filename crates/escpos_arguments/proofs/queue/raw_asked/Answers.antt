use Rattle.std.proofs.Common.{None, refl, sym, subst}
use Rattle.escpos_receipt.specs.declared.options.ReceiptOptions.{ReceiptOptions}
use Rattle.escpos_arguments.specs.Arguments.{IsReplacedBy}
use Rattle.escpos_arguments.proofs.TaskValues.{no_error}
use Rattle.escpos_arguments.proofs.queue.raw_asked.Goals as goal

pub returns-in_err-options-clause-taken : goal.returns-in_err-options-clause-taken
returns-in_err-options-clause-taken c = λ width dots none range.
    (let usual : ReceiptOptions = record { width = width; replacement = None } in
    absurd (no_error c.options_or_usual.result usual c.in_err-options.field-0.0
    (c.options_or_usual.ensures.taken usual (dots, subst (λ text. IsReplacedBy text None) (sym none) refl) (range, tt)) c.in_err-options.was))
