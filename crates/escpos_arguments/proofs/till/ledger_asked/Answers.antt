-- A new ledger is given, or none is.
use Rattle.clap.specs.Words.{found_of, rows_of}
use Rattle.escpos_arguments.proofs.TaskValues.{one_result}
use Rattle.escpos_arguments.proofs.TillValues.{taken_listing, taken_renewal}
use Rattle.escpos_arguments.proofs.till.ledger_asked.Goals as goal

pub returns-in-Some-clause-taken : goal.returns-in-Some-clause-taken
returns-in-Some-clause-taken c = λ task asks range.
    taken_renewal (rows_of (found_of c.args.given.now)) task c.in_ok-ledger.ledger c.in-Some.new c.renewal_asked.result asks c.in-Some.ensures
    (λ path h. one_result c.ledger_path.result _ _ c.in_ok-ledger.was (c.ledger_path.ensures.taken path h)) c.renewal_asked.ensures.taken

pub returns-in-None-clause-taken : goal.returns-in-None-clause-taken
returns-in-None-clause-taken c = λ task asks range.
    taken_listing (rows_of (found_of c.args.given.now)) task c.in_ok-ledger.ledger c.listing_asked.result asks c.in-None.ensures
    (λ path h. one_result c.ledger_path.result _ _ c.in_ok-ledger.was (c.ledger_path.ensures.taken path h)) c.listing_asked.ensures.taken
