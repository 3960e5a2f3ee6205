-- In the end no byte is left.
use Rattle.std.proofs.Common.{◌++◌, sym, ◌∙◌, ap, append-nil, refl}
use Rattle.escpos_receipt.specs.SpelledText.{lines_commands}
use Rattle.escpos_receipt.proofs.SpelledTexts.{none_spelled}
use Rattle.escpos_receipt.proofs.json.add_text.Goals as goal

pub returns-clause-added : goal.returns-clause-added
returns-clause-added c =
    let items = c.loop-command.commands.items in
    sym (append-nil items) ∙ ap (λ l. items ++ l) (sym (ap lines_commands (c.in_default.ensures.none refl) ∙ none_spelled)) ∙ c.loop-command.invariant.added
