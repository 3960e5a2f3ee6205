-- The numbers and names of refusals, as programs print them.
use Rattle.std.specs.Prelude.{ℕ, List, Option, Some, None, codes}
use Rattle.escpos_host.specs.declared.host.HostError.{HostError}
use Rattle.escpos_host.specs.declared.host.HostError.TheVariants as error
use Rattle.escpos_link.specs.declared.event.Refusal.{Refusal}
use Rattle.escpos_link.specs.declared.event.Refusal.TheVariants.{NotReady, MarksUsedUp, AlreadyUp, Memory, MarkReused, InFlightFull}

abbrev pub refusal_number : Refusal → ℕ
refusal_number NotReady = 1
refusal_number MarksUsedUp = 2
refusal_number AlreadyUp = 3
refusal_number Memory = 4
refusal_number (MarkReused least) = 5
refusal_number InFlightFull = 6

abbrev pub name_of : Refusal → List ℕ
name_of NotReady = codes "NotReady"
name_of MarksUsedUp = codes "MarksUsedUp"
name_of AlreadyUp = codes "AlreadyUp"
name_of Memory = codes "Memory"
name_of (MarkReused least) = codes "MarkReused"
name_of InFlightFull = codes "InFlightFull"

-- The least number that a mark may have.
abbrev pub least_of : Refusal → Option ℕ
least_of NotReady = None
least_of MarksUsedUp = None
least_of AlreadyUp = None
least_of Memory = None
least_of (MarkReused least) = Some least
least_of InFlightFull = None

-- A host's refusal as one of its line.
abbrev pub of_host : HostError → Refusal
of_host error.NotReady = NotReady
of_host error.MarksUsedUp = MarksUsedUp
of_host error.AlreadyUp = AlreadyUp
of_host error.Memory = Memory
of_host error.InFlightFull = InFlightFull
