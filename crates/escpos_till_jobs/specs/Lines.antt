-- The lines that `queue`, `deliver`, `cancel` and `ledger` print, and the exit statuses that go with them.
use Rattle.std.specs.Prelude.{ℕ, ◌==◌, if◌then◌else◌, ◌+◌, List, [], ◌∷◌, ◌++◌, codes, decimal}
use Rattle.escpos_command.specs.declared.bytes.TheConstants.{LF}
use Rattle.escpos_host.specs.Refusals.{fault_name}
use Rattle.escpos_job_parts.specs.declared.status.Status.{Status}
use Rattle.escpos_job_parts.specs.declared.status.Status.TheVariants.{Good, Refused, Device, Memory}
use Rattle.escpos_job_parts.specs.Ending.{memory_line}
use Rattle.escpos_tcp_jobs.specs.Send.{is_memory_fault, status_of_fault}
use Rattle.escpos_receipt.specs.Refusals.{json_name}
use Rattle.escpos_till.specs.declared.entry.Entry.{Entry}
use Rattle.escpos_till.specs.declared.note.TillNote.{TillNote}
use Rattle.escpos_till.specs.declared.note.TillNote.TheVariants as note
use Rattle.escpos_till.specs.declared.note.TillRefusal.{TillRefusal}
use Rattle.escpos_till.specs.declared.note.TillRefusal.TheVariants as refusal
use Rattle.escpos_till.specs.declared.pause.Pause.{Pause}
use Rattle.escpos_till.specs.declared.state.ReceiptState.{ReceiptState}
use Rattle.escpos_till.specs.declared.state.ReceiptState.TheVariants as state
use Rattle.escpos_till.specs.declared.store.NoStore.{NoStore}
use Rattle.escpos_till.specs.declared.store.NoStore.TheVariants as none
use Rattle.escpos_till.specs.declared.store.StoreFault.TheVariants as store
use Rattle.escpos_till.specs.Entries.{earlier, next_free, states}
use Rattle.escpos_till.specs.Pauses.{name_of, told_name}
use Rattle.escpos_till_jobs.specs.declared.outcome.Outcome.{Outcome}
use Rattle.escpos_till_jobs.specs.declared.outcome.Outcome.TheVariants as outcome

-- ## Whether there is a ledger

abbrev pub failed_line : List ℕ
failed_line = codes "ledger failed\n"

-- Why there is no ledger.
abbrev pub no_store_line : NoStore → List ℕ
no_store_line none.InUse = codes "ledger in use\n"
no_store_line none.NoLedger = codes "no ledger\n"
no_store_line none.Failed = failed_line
no_store_line none.Memory = memory_line

abbrev pub no_store_status : NoStore → Status
no_store_status none.InUse = Device
no_store_status none.NoLedger = Device
no_store_status none.Failed = Device
no_store_status none.Memory = Memory

-- ## What came of a call

-- A text and a number.
abbrev pub number_line : List ℕ → ℕ → List ℕ
number_line text number = text ++ decimal number ++ LF ∷ []

abbrev pub queued_line : ℕ → List ℕ
queued_line = number_line (codes "queued ")

abbrev pub recorded_line : ℕ → List ℕ
recorded_line = number_line (codes "recorded ")

-- The receipt was tried so often before it was cancelled.
abbrev pub cancelled_line : ℕ → ℕ → List ℕ
cancelled_line number tried =
    if tried == 0 then number_line (codes "cancelled ") number else codes "cancelled " ++ decimal number ++ codes " tried " ++ decimal tried ++ LF ∷ []

abbrev pub waiting_line : ℕ → List ℕ → List ℕ
waiting_line number why = codes "waiting " ++ decimal number ++ codes " " ++ why ++ LF ∷ []

-- The printer prints nothing for now, while the receipt with this number is being sent.
abbrev pub pause_line : ℕ → Pause → List ℕ
pause_line number why = codes "paused " ++ decimal number ++ codes " " ++ told_name why ++ LF ∷ []

-- What is told while a call goes on: that the printer prints nothing for now, or that a receipt is recorded and the next one is being sent.
-- Another note has no line here.
abbrev pub news_text : TillNote → List ℕ
news_text (note.Paused number why) = pause_line number why
news_text (note.Recorded number) = recorded_line number
news_text n = []

-- Why a call was refused. That nothing waits gives no line.
abbrev pub refusal_text : TillRefusal → List ℕ
refusal_text refusal.Busy = failed_line
refusal_text refusal.Failed = failed_line
refusal_text refusal.Memory = memory_line
refusal_text refusal.NothingWaits = []
refusal_text (refusal.NoReceipt number why) = waiting_line number (json_name why)
refusal_text (refusal.MarksUsedUp number) = waiting_line number (codes "MarksUsedUp")
refusal_text (refusal.MarkReused next) = number_line (codes "refused MarkReused ") next
refusal_text (refusal.MarkTooHigh last) = number_line (codes "refused MarkTooHigh ") last
refusal_text (refusal.NotTaken number) = number_line (codes "refused NotTaken ") number
refusal_text (refusal.Earlier number) = number_line (codes "refused Earlier ") number
refusal_text (refusal.Recorded number) = number_line (codes "refused Recorded ") number
refusal_text (refusal.Cancelled number) = number_line (codes "refused Cancelled ") number

abbrev pub refusal_status : TillRefusal → Status
refusal_status refusal.Busy = Device
refusal_status refusal.Failed = Device
refusal_status refusal.Memory = Memory
refusal_status refusal.NothingWaits = Good
refusal_status (refusal.NoReceipt number why) = Refused
refusal_status (refusal.MarksUsedUp number) = Refused
refusal_status (refusal.MarkReused next) = Refused
refusal_status (refusal.MarkTooHigh last) = Refused
refusal_status (refusal.NotTaken number) = Refused
refusal_status (refusal.Earlier number) = Refused
refusal_status (refusal.Recorded number) = Refused
refusal_status (refusal.Cancelled number) = Refused

-- What a machine's owner is told. That the next mark number is raised gives no line.
abbrev pub note_line : TillNote → List ℕ
note_line (note.Queued number) = queued_line number
note_line note.Raised = []
note_line (note.Cancelled number tried) = cancelled_line number tried
note_line (note.Recorded number) = recorded_line number
note_line (note.NoLink number) = waiting_line number (codes "no link")
note_line (note.Waiting number why) = if is_memory_fault why then memory_line else waiting_line number (fault_name why)
note_line (note.Paused number why) = waiting_line number (name_of why)
note_line (note.StillPaused number why) = waiting_line number (name_of why)
note_line (note.NotKept store.Memory) = memory_line
note_line (note.NotKept store.Failed) = failed_line

abbrev pub note_status : TillNote → Status
note_status (note.Queued number) = Good
note_status note.Raised = Good
note_status (note.Cancelled number tried) = Good
note_status (note.Recorded number) = Good
note_status (note.NoLink number) = Device
note_status (note.Waiting number why) = status_of_fault why
note_status (note.Paused number why) = Device
note_status (note.StillPaused number why) = Device
note_status (note.NotKept store.Memory) = Memory
note_status (note.NotKept store.Failed) = Device

abbrev pub outcome_line : Outcome → List ℕ
outcome_line (outcome.Refused why) = refusal_text why
outcome_line (outcome.Told n) = note_line n
outcome_line outcome.GivenUp = failed_line

abbrev pub outcome_status : Outcome → Status
outcome_status (outcome.Refused why) = refusal_status why
outcome_status (outcome.Told n) = note_status n
outcome_status outcome.GivenUp = Device

-- ## Listing

-- Where a receipt stands.
abbrev pub state_text : ReceiptState → List ℕ
state_text (state.Waiting tried) = if tried == 0 then codes " waiting\n" else codes " tried " ++ decimal tried ++ LF ∷ []
state_text (state.Recorded place) = codes " recorded " ++ decimal place ++ LF ∷ []
state_text (state.Cancelled tried) = if tried == 0 then codes " cancelled\n" else codes " cancelled tried " ++ decimal tried ++ LF ∷ []

abbrev pub state_line : ℕ → ReceiptState → List ℕ
state_line number s = decimal number ++ state_text s

-- A line for each, numbered from this number on.
abbrev pub state_lines : ℕ → List ReceiptState → List ℕ
state_lines number [] = []
state_lines number (s ∷ more) = state_line number s ++ state_lines (number + 1) more

-- The next mark number.
abbrev pub next_line : ℕ → List ℕ
next_line next = codes "next " ++ decimal next ++ LF ∷ []

-- All that a ledger's entries say: where each receipt stands, and the next mark number.
abbrev pub listing_text : List Entry → List ℕ
listing_text entries = state_lines (1 + earlier entries) (states entries) ++ next_line (next_free entries)
