-- The bytes of a text spell it, and a line feed follows those of a line.
use Rattle.std.proofs.Common.{◌≡◌, ◌∙◌, ◌++◌, ◌∷◌, [], sym, ap}
use Rattle.escpos_command.specs.CommandTable.{spell}
use Rattle.escpos_command.specs.declared.bytes.TheConstants.{LF}
use Rattle.escpos_receipt.specs.EntryCommands.{commands_in}
use Rattle.escpos_io.proofs.Giving.{given_in_the_front, given_in_turn}
use Rattle.escpos_stream_jobs.proofs.EntrySpellings.{line_spelled, text_spelled}
use Rattle.escpos_stream_jobs.proofs.encode.put_entry.Goals as goal

pub returns-in-Text : goal.returns-in-Text
returns-in-Text g c =
    let same : g.F.ByteForm.of c.bytes.result.now ≡ g.F.ByteForm.of (spell (commands_in c.args.entry.now))
    = ap g.F.ByteForm.of (c.bytes.ensures.spelled ∙ sym (text_spelled c.args.entry.now c.in-Text.text c.in-Text.is)) in
    rw same at c.put.ensures

pub returns-in_err-put-in-Line : goal.returns-in_err-put-in-Line
returns-in_err-put-in-Line g c =
    let text = c.bytes-in-Line.result.now in
    let device = c.in_err-put-in-Line.field-0.0 in
    let whole = line_spelled c.args.entry.now c.in-Line.text c.in-Line.is ∙ ap (λ bs. bs ++ LF ∷ []) (sym c.bytes-in-Line.ensures.spelled) in
    given_in_the_front c.from_residual.result device _ _ _ (g.F.ByteForm.of text) (g.F.ByteForm.of (LF ∷ [])) _ c.from_residual.ensures.1 c.in_err-put-in-Line.ensures
    (ap g.F.ByteForm.of whole ∙ g.F.ByteForm.joined text (LF ∷ []))

pub returns-in_ok-put-in-Line : goal.returns-in_ok-put-in-Line
returns-in_ok-put-in-Line g c =
    let text = c.bytes-in-Line.result.now in
    let whole = line_spelled c.args.entry.now c.in-Line.text c.in-Line.is ∙ ap (λ bs. bs ++ LF ∷ []) (sym c.bytes-in-Line.ensures.spelled) in
    given_in_turn c.put-in-Line-2.result _ _ _ _ _ _ _ _ _ (g.F.ByteForm.of text) (g.F.ByteForm.of (LF ∷ [])) _ c.in_ok-put-in-Line.ensures c.put-in-Line-2.ensures
    (ap g.F.ByteForm.of whole ∙ g.F.ByteForm.joined text (LF ∷ []))
