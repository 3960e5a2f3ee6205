-- What is sent is what the receipt that waits says, with the text of the line.
use Rattle.std.proofs.Common.{◌≡◌, ◌∙◌, sym, ap, subst, List, Option, Some}
use Rattle.std.specs.Prelude.{ℕ, IfOk}
use Rattle.escpos_command.specs.declared.command.Command.{Command}
use Rattle.escpos_receipt.specs.Whole.{Whole}
use Rattle.escpos_till.specs.Contents.{ContentDescribes, content_with}
use Rattle.escpos_till.specs.Copy.{sent_of}
use Rattle.escpos_till.proofs.further.sent_of.Goals as goal

pub returns-in-Some-clause-receipt : goal.returns-in-Some-clause-receipt
returns-in-Some-clause-receipt c =
    let Sent : Option (List ℕ) → List Command → Type 0 = λ text sent. (receipt : List Command)
    × ContentDescribes (content_with c.args.waiting.now.options c.args.waiting.now.content.now) receipt × Whole receipt
    × (sent ≡ sent_of text c.args.waiting.now.tried receipt) in
    subst (λ result. IfOk result (Sent c.args.copy.now)) (sym c.known.ensures.same)
    (subst (λ text. IfOk c.to_send.result (Sent text)) (ap Some c.text-text.ensures.same ∙ sym c.in-Some.is) c.to_send.ensures.receipt)
