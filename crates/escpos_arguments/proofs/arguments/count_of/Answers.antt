use Rattle.escpos_arguments.proofs.TaskValues.{or_number}
use Rattle.escpos_arguments.proofs.arguments.count_of.Goals as goal

pub returns-in_err-number_given-clause-taken : goal.returns-in_err-number_given-clause-taken
returns-in_err-number_given-clause-taken c = λ n h low high.
    let read = or_number c.args.fallback _ n h in
    let bad = c.in_err-number_given.ensures.taken read.0 read.1 in
    cc
