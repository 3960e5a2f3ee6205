-- The bytes are those of the commands that the text is written as.
use Rattle.std.proofs.Common.{◌++◌, Ok, sym, ◌∙◌, ap, subst}
use Rattle.escpos_command.specs.CommandTable.{spell}
use Rattle.escpos_text.proofs.TextLaws.{written-of_text}
use Rattle.escpos_receipt.specs.Entries.{or_fault}
use Rattle.escpos_receipt.specs.EntryCommands.{with_commands}
use Rattle.escpos_receipt.specs.SpelledText.{IsTextBytes, lines_commands}
use Rattle.escpos_receipt.proofs.SpelledTexts.{lines_commands-spell, next_of_text, of_text, text_bytes}
use Rattle.escpos_receipt.proofs.entry.written.Goals as goal

pub made-requires : goal.made-requires
made-requires c =
    let w = c.in-Ok.ensures.written in
    let cs = w.commands in
    let text = written-of_text c.args.encoding.now _ cs w.are_written in
    record { text = subst IsTextBytes (sym (w.are_spelled ∙ ap (λ l. l ++ spell cs) (c.reserve.ensures.items ∙ c.new-bytes.ensures.items))) (text_bytes cs (of_text cs text)) }

pub returns-in-Ok-clause-text : goal.returns-in-Ok-clause-text
returns-in-Ok-clause-text c =
    let w = c.in-Ok.ensures.written in
    let cs = w.commands in
    let text = written-of_text c.args.encoding.now _ cs w.are_written in
    let same = c.made.ensures.text ∙ ap lines_commands (w.are_spelled ∙ ap (λ l. l ++ spell cs) (c.reserve.ensures.items ∙ c.new-bytes.ensures.items)) ∙ lines_commands-spell cs (of_text cs text) in
    ap or_fault w.are_written ∙ ap Ok (sym same)

pub returns-in-Ok-clause-next : goal.returns-in-Ok-clause-next
returns-in-Ok-clause-next c =
    let w = c.in-Ok.ensures.written in
    let cs = w.commands in
    let text = written-of_text c.args.encoding.now _ cs w.are_written in
    let same = c.made.ensures.text ∙ ap lines_commands (w.are_spelled ∙ ap (λ l. l ++ spell cs) (c.reserve.ensures.items ∙ c.new-bytes.ensures.items)) ∙ lines_commands-spell cs (of_text cs text) in
    w.in_force ∙ sym (next_of_text c.args.encoding.now cs text) ∙ ap (with_commands c.args.encoding.now) (sym same)
