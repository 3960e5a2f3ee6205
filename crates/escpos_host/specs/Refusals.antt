-- The names of refusals, as programs print them.
use Rattle.std.specs.Prelude.{ℕ, List, codes}
use Rattle.escpos_host.specs.declared.host.HostError.{HostError}
use Rattle.escpos_host.specs.declared.host.HostError.TheVariants.{NotReady, MarksUsedUp, AlreadyUp, Memory, InFlightFull}
use Rattle.escpos_host.specs.declared.send.SendFault.{SendFault}
use Rattle.escpos_host.specs.declared.send.SendFault.TheVariants as fault

abbrev pub error_name : HostError → List ℕ
error_name NotReady = codes "NotReady"
error_name MarksUsedUp = codes "MarksUsedUp"
error_name AlreadyUp = codes "AlreadyUp"
error_name Memory = codes "Memory"
error_name InFlightFull = codes "InFlightFull"

abbrev pub fault_name : SendFault → List ℕ
fault_name fault.Ended = codes "Ended"
fault_name fault.ReadFault = codes "ReadFault"
fault_name fault.WriteFault = codes "WriteFault"
fault_name fault.TimedOut = codes "TimedOut"
fault_name fault.TooLong = codes "TooLong"
fault_name fault.BadAnswer = codes "BadAnswer"
fault_name (fault.Refused why) = error_name why
