-- Why a stream isn't read.
use Rattle.std.proofs.Common.{◌≡◌, subst}
use Rattle.escpos_stream.specs.declared.fault.StreamFault.TheVariants.{Refused}
use Rattle.escpos_stream.specs.Streams.{IsStreamFault}
use Rattle.escpos_stream.proofs.Stopping.{refused}
use Rattle.escpos_stream.proofs.stream.read_kept.Goals as goal

pub returns-in-Err-Fault-clause-refused : goal.returns-in-Err-Fault-clause-refused
returns-in-Err-Fault-clause-refused c = λ fault same width.
    (let (cs, rest, f, taken, none) = rw c.in-Err-Fault.field-0-is at c.in-Err-Fault.ensures.stopped in
    let is : Refused c.in-Err-Fault.at c.in-Err-Fault.why ≡ fault = cc in
    subst (λ v. IsStreamFault width v c.args.bytes.now) is
    (refused width c.new-decoder.result c.args.bytes.now cs rest c.in-Err-Fault.at c.in-Err-Fault.why c.new-decoder.ensures f))
