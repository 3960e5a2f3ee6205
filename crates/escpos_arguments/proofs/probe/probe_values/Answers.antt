use Rattle.std.proofs.Common.{Ok}
use Rattle.escpos_arguments.proofs.TaskValues.{no_error, one_result}
use Rattle.escpos_arguments.proofs.probe.probe_values.Goals as goal

pub returns-in_err-address-clause-taken : goal.returns-in_err-address-clause-taken
returns-in_err-address-clause-taken c = λ task asks range.
    absurd (no_error c.address_of.result task.address c.in_err-address.field-0.0 (c.address_of.ensures.taken task.address asks.1) c.in_err-address.was)

pub returns-clause-taken : goal.returns-clause-taken
returns-clause-taken c = λ task asks range.
    let address = one_result c.address_of.result _ _ c.in_ok-address.was (c.address_of.ensures.taken task.address asks.1) in
    let wait = one_result c.wait_given.result _ _ c.in_ok-wait.was (c.wait_given.ensures.taken task.wait asks.2 range) in
    λ t. Ok (record { address = address t; wait = wait t })
