use Rattle.clap.specs.Words.{found_of, rows_of}
use Rattle.escpos_arguments.proofs.TillValues.{taken_again, taken_key}
use Rattle.escpos_arguments.proofs.queue.queue_asked.Goals as goal

pub returns-in_err-again_given-clause-taken : goal.returns-in_err-again_given-clause-taken
returns-in_err-again_given-clause-taken c = λ task asks range.
    absurd (taken_again (rows_of (found_of c.args.given.now)) task c.again_given.result c.in_err-again_given.field-0.0 asks range c.in_err-again_given.was c.again_given.ensures.taken)

pub returns-in_err-key-clause-taken : goal.returns-in_err-key-clause-taken
returns-in_err-key-clause-taken c = λ task asks range.
    absurd (taken_key (rows_of (found_of c.args.given.now)) task c.key_given.result c.in_err-key.field-0.0 asks range c.in_err-key.was c.key_given.ensures.taken)
