-- The bytes of a text spell it, and a line feed follows those of a line.
use Rattle.std.proofs.Common.{◌≡◌, ◌++◌, ◌∙◌, [], ◌∷◌, ap, sym, append_assoc}
use Rattle.escpos_command.specs.CommandTable.{spell}
use Rattle.escpos_command.specs.declared.bytes.TheConstants.{LF}
use Rattle.escpos_receipt.specs.EntryCommands.{commands_in}
use Rattle.escpos_stream_jobs.proofs.EntrySpellings.{text_spelled, line_spelled}
use Rattle.escpos_c.proofs.spelling.append.Goals as goal

pub returns-in_ok-extend_from_slice-in-Text : goal.returns-in_ok-extend_from_slice-in-Text
returns-in_ok-extend_from_slice-in-Text c =
    c.in_ok-extend_from_slice-in-Text.ensures.items
    ∙ ap (λ bs. c.args.bytes.now.items ++ bs) (c.bytes.ensures.spelled ∙ sym (text_spelled c.args.entry.now c.in-Text.text c.in-Text.is))

pub returns-in_ok-push-in-Line : goal.returns-in_ok-push-in-Line
returns-in_ok-push-in-Line c =
    let text = c.bytes-in-Line.result.now in
    let whole : spell (commands_in c.args.entry.now) ≡ text ++ LF ∷ []
    = line_spelled c.args.entry.now c.in-Line.text c.in-Line.is ∙ ap (λ bs. bs ++ LF ∷ []) (sym c.bytes-in-Line.ensures.spelled) in
    c.in_ok-push-in-Line.ensures.items ∙ ap (λ bs. bs ++ LF ∷ []) c.in_ok-extend_from_slice-in-Line.ensures.items
    ∙ append_assoc c.args.bytes.now.items text (LF ∷ []) ∙ ap (λ bs. c.args.bytes.now.items ++ bs) (sym whole)
