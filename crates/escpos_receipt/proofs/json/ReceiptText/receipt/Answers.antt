-- Why the array gives no receipt is why the text is refused.
use Rattle.std.proofs.Common.{sym, subst}
use Rattle.serde_json.specs.View.{view}
use Rattle.escpos_receipt.specs.Describes.{IsJson}
use Rattle.escpos_receipt.proofs.MoreEntries.{of_array}
use Rattle.escpos_receipt.proofs.json.ReceiptText.receipt.Goals as goal

pub returns-clause-refused : goal.returns-clause-refused
returns-clause-refused c = λ because e text json.
    of_array c.args.options.now because text (view c.self.inside.value) c.in_ok-values_of.field-0.now (subst (λ v. IsJson text (view v)) (sym c.self.view_is) json)
    c.in_ok-values_of.ensures.values (c.receipt_of.ensures.refused because e)
