-- A width that the values say is taken.
use Rattle.clap.specs.Words.{found_of, rows_of}
use Rattle.escpos_arguments.proofs.TaskValues.{no_error, width_said}
use Rattle.escpos_arguments.proofs.width.width_or_usual.Goals as goal

pub returns-in_err-width-clause-taken : goal.returns-in_err-width-clause-taken
returns-in_err-width-clause-taken c = λ width gives range.
    let (said, h, fits, same) = width_said (rows_of (found_of c.args.given.now)) width gives range in
    absurd (no_error c.width_given.result said c.in_err-width.field-0.0 (c.width_given.ensures.taken said h fits) c.in_err-width.was)
