use Rattle.std.proofs.Common.{Ok, ap}
use Rattle.clap.specs.Words.{found_of, rows_of}
use Rattle.escpos_arguments.proofs.TaskValues.{one_result}
use Rattle.escpos_arguments.proofs.TillValues.{taken_address, taken_task, taken_wait}
use Rattle.escpos_arguments.proofs.till.deliver_asked.Goals as goal

pub returns-in_err-address-clause-taken : goal.returns-in_err-address-clause-taken
returns-in_err-address-clause-taken c = λ task asks range.
    absurd (taken_address (rows_of (found_of c.args.given.now)) task c.address_of.result c.in_err-address.field-0.0 asks c.in_err-address.was c.address_of.ensures.taken)

pub returns-in_err-wait-clause-taken : goal.returns-in_err-wait-clause-taken
returns-in_err-wait-clause-taken c = λ task asks range.
    absurd (taken_wait (rows_of (found_of c.args.given.now)) task c.wait_given.result c.in_err-wait.field-0.0 asks range c.in_err-wait.was c.wait_given.ensures.taken)

pub returns-clause-taken : goal.returns-clause-taken
returns-clause-taken c = λ task asks range.
    ap Ok (taken_task (rows_of (found_of c.args.given.now)) task c.in_ok-ledger.ledger c.in_ok-address.address c.in_ok-openings.openings c.in_ok-patience.patience c.in_ok-copy.copy c.in_ok-wait.wait asks range
    (λ path h. one_result c.ledger_path.result _ _ c.in_ok-ledger.was (c.ledger_path.ensures.taken path h))
    (λ a h. one_result c.address_of.result _ _ c.in_ok-address.was (c.address_of.ensures.taken a h))
    (λ n h low high. one_result c.count_of.result _ _ c.in_ok-openings.was (c.count_of.ensures.taken n h low high))
    (λ n h within. one_result c.count_of-2.result _ _ c.in_ok-patience.was (c.count_of-2.ensures.taken n h within.0 within.1))
    (λ copy h fits. one_result c.copy_given.result _ _ c.in_ok-copy.was (c.copy_given.ensures.taken copy h fits))
    (λ wait h fits. one_result c.wait_given.result _ _ c.in_ok-wait.was (c.wait_given.ensures.taken wait h fits)))
