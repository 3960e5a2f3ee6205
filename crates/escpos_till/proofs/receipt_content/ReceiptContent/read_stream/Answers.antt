-- The stream, with ESC @ at its beginning, gives the receipt that was read.
use Rattle.std.proofs.Common.{inr, sym, subst}
use Rattle.escpos_stream.specs.Streams.{StreamGives}
use Rattle.escpos_till.specs.Contents.{GivesReceipt}
use Rattle.escpos_till.proofs.receipt_content.ReceiptContent.read_stream.Goals as goal

pub invariant_of-result : goal.invariant_of-result
invariant_of-result c =
    let receipt = c.in_ok-stream_receipt.field-0 in
    let (gives, whole, range) = c.in_ok-stream_receipt.ensures.receipt in
    let same = c.in_ok-text.ensures.same receipt (subst (λ b. StreamGives b receipt) c.deref.ensures.value gives) in
    subst GivesReceipt (sym c.with_options.ensures) (receipt, inr (c.in_ok-text.ensures.begins, same), whole)

pub returns-clause-gives : goal.returns-clause-gives
returns-clause-gives c =
    let receipt = c.in_ok-stream_receipt.field-0 in
    let (gives, whole, range) = c.in_ok-stream_receipt.ensures.receipt in
    let same = c.in_ok-text.ensures.same receipt (subst (λ b. StreamGives b receipt) c.deref.ensures.value gives) in
    subst GivesReceipt (sym c.with_options.ensures) (receipt, inr (c.in_ok-text.ensures.begins, same), whole)
