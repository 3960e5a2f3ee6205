-- Why the bytes of a stream aren't all read.
use Rattle.std.proofs.Common.{◌≡◌, ℕ, ◌+◌, List, [], ◌++◌, length, subst, arith}
use Rattle.escpos_command.specs.declared.command.Command.{Command}
use Rattle.escpos_command.specs.declared.fault.FaultReason.{FaultReason}
use Rattle.escpos_command.specs.Grammar.{FaultAt}
use Rattle.escpos_stream.specs.declared.fault.StreamFault.TheVariants as fault
use Rattle.escpos_stream.specs.Streams.{IsStreamFault}

-- A byte is refused, where no half command came before the bytes.
pub refused : (width : ℕ) (half bytes : List ℕ) (cs : List Command) (rest : List ℕ) (at : ℕ) (why : FaultReason) → half ≡ []
    → FaultAt (half ++ bytes) cs rest (length half + at) why → IsStreamFault width (fault.Refused at why) bytes
refused width half bytes cs rest at why none f =
    let here : length {0} {A = ℕ} [] + at ≡ at = omega arith in
    (cs, rest, subst (λ k. FaultAt bytes cs rest k why) here (subst (λ h. FaultAt (h ++ bytes) cs rest (length h + at) why) none f))
