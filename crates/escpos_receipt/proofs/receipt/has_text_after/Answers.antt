use Rattle.std.proofs.Common.{sym, ◌∙◌, ap}
use Rattle.std.specs.Prelude.{not}
use Rattle.escpos_receipt.proofs.Following.{after_a_character, after_none, after_text}
use Rattle.escpos_receipt.proofs.receipt.has_text_after.Goals as goal

pub returns-then-is_printing : goal.returns-then-is_printing
returns-then-is_printing c = λ before follows same. c.if-is_printing.true ∙ after_a_character before _ follows (sym c.is_printing.ensures ∙ c.if-is_printing.true)

pub returns-then-had_text : goal.returns-then-had_text
returns-then-had_text c = λ before follows same.
    ap not c.ends_text.ensures ∙ after_text before _ follows (sym c.is_printing.ensures ∙ c.if-is_printing.false) (sym same ∙ c.if-had_text.true)

pub returns-else-had_text : goal.returns-else-had_text
returns-else-had_text c = λ before follows same.
    c.if-had_text.false ∙ after_none before _ follows (sym c.is_printing.ensures ∙ c.if-is_printing.false) (sym same ∙ c.if-had_text.false)
