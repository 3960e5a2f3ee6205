-- Where a number is refused there is a text.
use Rattle.std.proofs.Common.{None}
use Rattle.escpos_arguments.proofs.TaskValues.{in_none}
use Rattle.escpos_arguments.proofs.width.has_no_width.Goals as goal

pub returns-in_default-2 : goal.returns-in_default-2
returns-in_default-2 c = (
  λ is. absurd (cc),
  λ none.
      let found = c.number_given.ensures.taken None (in_none _ none) in
      let other = c.in_default.is in
      absurd (cc),
)
