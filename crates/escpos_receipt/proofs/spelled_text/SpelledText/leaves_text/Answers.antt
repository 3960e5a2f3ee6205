-- The last byte says whether there is text in the line.
use Rattle.std.proofs.Common.{sym, ◌∙◌, ap}
use Rattle.escpos_receipt.specs.SpelledText.{text_left}
use Rattle.escpos_receipt.proofs.LineStates.{left_by_last, left_by_none}
use Rattle.escpos_receipt.proofs.spelled_text.SpelledText.leaves_text.Goals as goal

pub returns-in-empty : goal.returns-in-empty
returns-in-empty c =
    sym (ap (text_left c.args.in_line) c.bytes.ensures.text.1 ∙ left_by_none c.args.in_line c.bytes.result.now c.in-empty.len_below)

pub returns-in-len1-up : goal.returns-in-len1-up
returns-in-len1-up c =
    sym (ap (text_left c.args.in_line) c.bytes.ensures.text.1 ∙ left_by_last c.args.in_line c.bytes.result.now c.in-len1-up.len_at_least c.bytes.ensures.text.0)
