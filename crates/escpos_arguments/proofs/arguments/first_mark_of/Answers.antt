use Rattle.std.proofs.Common.{Some}
use Rattle.escpos_arguments.proofs.TaskValues.{number_in}
use Rattle.escpos_arguments.proofs.arguments.first_mark_of.Goals as goal

pub returns-in_err-number_given-clause-taken : goal.returns-in_err-number_given-clause-taken
returns-in_err-number_given-clause-taken c = λ n h.
    let bad = c.in_err-number_given.ensures.taken (Some n) (number_in _ n h) in
    cc
