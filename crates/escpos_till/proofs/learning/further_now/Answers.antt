-- A receipt that is cancelled meanwhile isn't recorded.
use Rattle.std.proofs.Common.{inr, sym, ◌∙◌}
use Rattle.escpos_till.proofs.learning.further_now.Goals as goal

pub returns-in-Some-Cancelled : goal.returns-in-Some-Cancelled
returns-in-Some-Cancelled c = inr (
  c.in-Some-Cancelled.tried,
  λ es book. sym (c.in-Some-Cancelled.ensures.stands es book) ∙ c.in-Some-Cancelled.field-0-is,
  c.cancelled_now.ensures.host,
  c.cancelled_now.ensures.stage,
)
