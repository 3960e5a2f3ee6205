use Rattle.escpos_decode.proofs.GoingOn.{goes_on}
use Rattle.escpos_command.proofs.Readings.{fault_joined, fault_of_front, joined}
use Rattle.escpos_decode.proofs.decoder.Decoder.push.Goals as goal

pub returns-clause-stream : goal.returns-clause-stream
returns-clause-stream c =
    goes_on (record { reading = joined; fault = fault_joined; first_fault = fault_of_front })
    _ _ _ _ c.step-step.ensures.step
