-- What `status` asks of a printer, which bytes it speaks of, and what it prints.
use Rattle.std.specs.Prelude.{ℕ, ◌≡◌, ◌≢◌, ◌<◌, ◌||◌, ◌⊎◌, ⊤, List, [], ◌∷◌, ◌++◌, length, if◌then◌else◌, IsTrue, codes}
use Rattle.std.specs.List.{AllByRecursion}
use Rattle.std.specs.Io.KnownBytes.{Appends, Consumes}
use Rattle.escpos_command.specs.declared.answer.Answer.{Answer}
use Rattle.escpos_command.specs.declared.answer.Answer.TheVariants as answer
use Rattle.escpos_command.specs.declared.bytes.TheConstants.{LF}
use Rattle.escpos_command.specs.declared.command.Command.{Command}
use Rattle.escpos_command.specs.declared.command.Command.TheVariants as kind
use Rattle.escpos_command.specs.Answers.{HalfAnswer, ViableAnswer, is_answer, is_status_byte, spell_answers}
use Rattle.escpos_command.specs.CommandTable.{spell}
use Rattle.escpos_command.specs.Meanings.{has_bit}
use Rattle.escpos_host.specs.declared.send.SendFault.{SendFault}
use Rattle.escpos_host.specs.declared.send.SendFault.TheVariants as fault
use Rattle.escpos_host.specs.Refusals.{fault_name}
use Rattle.escpos_tcp_jobs.specs.declared.printer_status.PrinterStatus.{PrinterStatus}
use Rattle.escpos_tcp_jobs.specs.declared.printer_status.TheConstants.{STATUS_LIMIT}
use Rattle.escpos_job_parts.specs.declared.status.Status.TheVariants.{Good, Device}
use Rattle.escpos_job_parts.specs.Ending.{JobEnd, Tells}
use Rattle.escpos_tcp_jobs.specs.Send.{Devices, DevicesSay, Passed}

-- The requests for the four kinds of status, in order. (Reference: DLE EOT.)
abbrev pub requests : List Command
requests = kind.Status 1 ∷ kind.Status 2 ∷ kind.Status 3 ∷ kind.Status 4 ∷ []

-- The text: three lines, which the four bytes decide. (Reference: DLE EOT.)
abbrev pub status_text : PrinterStatus → List ℕ
status_text s =
    (if has_bit s.printer 3 then codes "offline\n" else codes "online\n")
    ++ (if has_bit s.offline 2 then codes "cover open\n" else codes "cover closed\n")
    ++ (if has_bit s.paper 5 || has_bit s.paper 6 then codes "paper ended\n"
    else if has_bit s.paper 2 || has_bit s.paper 3 then codes "paper near its end\n" else codes "paper there\n")

abbrev pub no_status_line : SendFault → List ℕ
no_status_line why = codes "no status " ++ fault_name why ++ LF ∷ []

-- An answer that is passed over: that of a mark, or a block of automatic status.
abbrev pub IsPassedOver : Answer → Type 0
IsPassedOver (answer.Mark id) = ⊤
IsPassedOver (answer.Condition block) = ⊤
IsPassedOver (answer.Status b) = ⊥

-- These bytes are such answers, one after another.
pub record ArePassedOver (bytes : List ℕ) : Type 0 where
  pub answers : List Answer
  pub each : AllByRecursion IsPassedOver answers
  pub in_range : AllByRecursion (λ a. IsTrue (is_answer a)) answers
  pub whole : bytes ≡ spell_answers answers

-- These bytes are such answers, if any, and then this status byte.
abbrev pub TellsNext : List ℕ → ℕ → Type 0
TellsNext bytes byte = (before : List ℕ) × ArePassedOver before × (bytes ≡ before ++ byte ∷ []) × IsTrue (is_status_byte byte)

-- These bytes tell this status: its four bytes stand among them in order, and beside them only such answers.
pub record TellsStatus (bytes : List ℕ) (s : PrinterStatus) : Type 0 where
  pub first : List ℕ
  pub second : List ℕ
  pub third : List ℕ
  pub fourth : List ℕ
  pub whole : bytes ≡ first ++ second ++ third ++ fourth
  pub printer : TellsNext first s.printer
  pub offline : TellsNext second s.offline
  pub error : TellsNext third s.error
  pub paper : TellsNext fourth s.paper

-- ## Why a printer doesn't say

-- Up to here nothing but such answers has come, the last of which may be a half answer.
abbrev pub NoneYet : List ℕ → List ℕ → Type 0
NoneYet bytes half = (before : List ℕ) × ArePassedOver before × (bytes ≡ before ++ half) × ((half ≡ []) ⊎ HalfAnswer half)

-- A read found no further byte, although more may be read.
abbrev pub FindsNone : List ℕ → Type 0
FindsNone bytes = (half : List ℕ) × NoneYet bytes half × (length bytes < STATUS_LIMIT)

-- Why no status byte came, in these bytes.
abbrev pub FailsNext : SendFault → List ℕ → Type 0
FailsNext fault.Ended bytes = FindsNone bytes
FailsNext fault.ReadFault bytes = FindsNone bytes
FailsNext fault.TimedOut bytes = FindsNone bytes
FailsNext fault.TooLong bytes = (half : List ℕ) × NoneYet bytes half × (length bytes ≡ STATUS_LIMIT)
FailsNext fault.BadAnswer bytes =
    (good : List ℕ) × (half : List ℕ) × (byte : ℕ) × NoneYet good half × (length good < STATUS_LIMIT) × (bytes ≡ good ++ byte ∷ [])
    × (ViableAnswer (half ++ byte ∷ []) → ⊥)
FailsNext why bytes = ⊥

-- These bytes tell these status bytes, one after another.
abbrev pub TellsEach : List ℕ → List ℕ → Type 0
TellsEach bytes [] = bytes ≡ []
TellsEach bytes (status ∷ more) = (first : List ℕ) × (rest : List ℕ) × (bytes ≡ first ++ rest) × TellsNext first status × TellsEach rest more

-- A sink failed.
abbrev pub IsOfSink : SendFault → Type 0
IsOfSink fault.WriteFault = ⊤
IsOfSink fault.TimedOut = ⊤
IsOfSink why = ⊥

-- Not all requests went out, and nothing was read; or fewer than four status bytes came.
abbrev pub FailsToAsk : SendFault → List ℕ → List ℕ → Type 0
FailsToAsk why unsent bytes =
    ((unsent ≢ []) × (bytes ≡ []) × IsOfSink why)
    ⊎ ((unsent ≡ []) × ((told : List ℕ) × (early : List ℕ) × (late : List ℕ) × (bytes ≡ early ++ late) × TellsEach early told × (length told < 4)
    × FailsNext why late))

-- ## The whole

-- The printer was asked, with these bytes put, and what it says, in these bytes, or why it says nothing, is printed.
pub record AsksAndTells (p : Passed) (d : Devices) (o : JobEnd) : Type 0 where
  pub bytes : List ℕ
  pub out : List ℕ
  pub unsent : List ℕ
  pub consumes : Consumes p.came p.rest bytes
  pub appends : Appends p.before p.after out
  pub asks : spell requests ≡ out ++ unsent
  pub tells :
      ((s : PrinterStatus) × (unsent ≡ []) × TellsStatus bytes s × Tells o (status_text s) Good)
      ⊎ ((why : SendFault) × FailsToAsk why unsent bytes × DevicesSay d why × Tells o (no_status_line why) Device)
