-- A line feed leaves the encoding as it is.
use Rattle.std.proofs.Common.{sym, ◌∙◌, ap}
use Rattle.serde_json.specs.View.{view}
use Rattle.escpos_receipt.specs.Entries.{qr_commands}
use Rattle.escpos_receipt.specs.EntryCommands.{after_member}
use Rattle.escpos_command.specs.declared.command.Command.TheVariants.{LineFeed}
use Rattle.std.specs.Prelude.{◌++◌, ◌∷◌, []}
use Rattle.escpos_receipt.proofs.SpelledTexts.{next_of_line}
use Rattle.escpos_receipt.proofs.entry.read_member.Goals as goal

pub returns-in-Ok-text_in-clause-next : goal.returns-in-Ok-text_in-clause-next
returns-in-Ok-text_in-clause-next c =
    let text = c.in-Ok-text_in.text in
    let e = c.args.in_force.now.encoding in
    let same = c.in-Ok-text_in.ensures.next ∙ sym (next_of_line e text)
    ∙ ap (λ m. after_member e m (view c.args.value.now) (text ++ LineFeed ∷ [])) (sym c.in-Line.is) in
    cc (same, c.follow_line.ensures)

pub returns-in-Ok-qr_in-clause-next : goal.returns-in-Ok-qr_in-clause-next
returns-in-Ok-qr_in-clause-next c =
    let e = c.args.in_force.now.encoding in
    let code = c.in-Ok-qr_in.code in
    let cs = qr_commands code.size code.level code.stored in
    let same = ap (λ m. after_member e m (view c.args.value.now) cs) (sym c.in-Qr.is) in
    cc (same, c.follow_code.ensures code.size code.level code.stored)
