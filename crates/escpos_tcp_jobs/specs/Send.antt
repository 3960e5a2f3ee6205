-- What `send` prints for a receipt that was sent, and its exit status.
use Rattle.std.specs.Prelude.{ℕ, Bool, true, false, if◌then◌else◌, ◌≤◌, ◌⊎◌, ⊤, List, [], ◌∷◌, ◌++◌, length, Option, IsTrue, codes, decimal}
use Rattle.std.specs.Io.KnownBytes.{Appends, Consumes}
use Rattle.escpos_command.specs.declared.bytes.TheConstants.{LF}
use Rattle.escpos_host.specs.declared.host.HostError.TheVariants as error
use Rattle.escpos_host.specs.declared.send.SendFault.{SendFault}
use Rattle.escpos_host.specs.declared.send.SendFault.TheVariants as fault
use Rattle.escpos_host.specs.declared.send.Sent.{Sent}
use Rattle.escpos_host.specs.declared.send.Sent.TheVariants as became
use Rattle.escpos_host.specs.Machine.{HostView}
use Rattle.escpos_host.specs.Refusals.{fault_name}
use Rattle.escpos_host.specs.Sends.{Call, Sends, Why}
use Rattle.escpos_job_parts.specs.declared.status.Status.{Status}
use Rattle.escpos_job_parts.specs.declared.status.Status.TheVariants.{Good, Refused, Device, Memory}
use Rattle.escpos_job_parts.specs.Ending.{JobEnd, Tells, memory_line}

-- The line of a receipt that is recorded.
abbrev pub recorded_line : ℕ → List ℕ
recorded_line number = codes "recorded " ++ decimal number ++ LF ∷ []

abbrev pub is_memory_fault : SendFault → Bool
is_memory_fault (fault.Refused error.Memory) = true
is_memory_fault why = false

-- The line that says why a receipt isn't recorded.
abbrev pub not_recorded_line : SendFault → List ℕ
not_recorded_line why = if is_memory_fault why then memory_line else codes "not recorded " ++ fault_name why ++ LF ∷ []

abbrev pub outcome_line : Sent → List ℕ
outcome_line (became.Recorded number) = recorded_line number
outcome_line (became.NotRecorded why receipt) = not_recorded_line why

-- What became of the receipt, and the number of the next mark.
abbrev pub sent_text : Sent → ℕ → List ℕ
sent_text sent next = outcome_line sent ++ codes "next " ++ decimal next ++ LF ∷ []

abbrev pub status_of_fault : SendFault → Status
status_of_fault (fault.Refused error.MarksUsedUp) = Refused
status_of_fault (fault.Refused error.Memory) = Memory
status_of_fault why = Device

abbrev pub status_of_sent : Sent → Status
status_of_sent (became.Recorded number) = Good
status_of_sent (became.NotRecorded why receipt) = status_of_fault why

-- The bytes that are still to come from a link's source, and those that its sink has taken, where they are known.
pub record Passed : Type 0 where
  pub came : Option (List ℕ)
  pub rest : Option (List ℕ)
  pub before : Option (List ℕ)
  pub after : Option (List ℕ)

abbrev pub passed : Option (List ℕ) → Option (List ℕ) → Option (List ℕ) → Option (List ℕ) → Passed
passed came rest before after = record { came = came; rest = rest; before = before; after = after }

-- What a link's source and sink say of themselves in the end: whether the source has ended, whether it has failed and that by
-- a time-out, and the same of the sink.
pub record Devices : Type 0 where
  pub ended : Bool
  pub read_failed : Bool
  pub read_timed_out : Bool
  pub write_failed : Bool
  pub write_timed_out : Bool

abbrev pub devices : Bool → Bool → Bool → Bool → Bool → Devices
devices ended read_failed read_timed_out write_failed write_timed_out = record {
  ended = ended;
  read_failed = read_failed;
  read_timed_out = read_timed_out;
  write_failed = write_failed;
  write_timed_out = write_timed_out;
}

-- A cause that is the devices' own is what they say.
abbrev pub DevicesSay : Devices → SendFault → Type 0
DevicesSay d fault.Ended = IsTrue d.ended
DevicesSay d fault.ReadFault = IsTrue d.read_failed × (¬ IsTrue d.read_timed_out)
DevicesSay d fault.WriteFault = IsTrue d.write_failed × (¬ IsTrue d.write_timed_out)
DevicesSay d fault.TimedOut = (IsTrue d.read_failed × IsTrue d.read_timed_out) ⊎ (IsTrue d.write_failed × IsTrue d.write_timed_out)
DevicesSay d why = ⊤

-- A receipt was sent, with these bytes read and these written, and what became of it is printed.
pub record SendsAndTells (c : Call) (p : Passed) (d : Devices) (o : JobEnd) : Type 0 where
  pub bytes : List ℕ
  pub out : List ℕ
  pub became : Sent
  pub host : HostView
  pub consumes : Consumes p.came p.rest bytes
  pub appends : Appends p.before p.after out
  pub few : length bytes ≤ c.most
  pub sends : Sends c bytes out became host
  pub cause : (why : SendFault) → Why became why → DevicesSay d why
  pub tells : Tells o (sent_text became host.next) (status_of_sent became)
