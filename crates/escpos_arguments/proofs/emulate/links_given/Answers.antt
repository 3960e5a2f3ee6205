use Rattle.clap.specs.Words.{found_of, rows_of}
use Rattle.escpos_arguments.proofs.TaskValues.{links_refused}
use Rattle.escpos_arguments.proofs.emulate.links_given.Goals as goal

pub returns-in_err-number_given-clause-taken : goal.returns-in_err-number_given-clause-taken
returns-in_err-number_given-clause-taken c = λ links asks range.
    absurd (links_refused (rows_of (found_of c.args.given.now)) c.number_given.result c.in_err-number_given.field-0.0 c.in_err-number_given.was
    c.number_given.ensures.taken (c.has_flag.ensures.0 c.if-has_flag.true) links asks)
