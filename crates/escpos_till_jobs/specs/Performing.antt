-- What is done for a till: a receipt is read, or refused; a ledger is delivered to an address.
use Rattle.std.specs.Prelude.{ℕ, Bool, ◌≡◌, ◌⊎◌, ◌<◌, ◌≤◌, Option, List, codes, length, IfSome, IsTrue}
use Rattle.escpos_addresses.specs.declared.address.Address.{Address}
use Rattle.escpos_job_parts.specs.declared.input.TheConstants.{INPUT_LIMIT}
use Rattle.escpos_job_parts.specs.declared.input.InputFault.TheVariants as input
use Rattle.escpos_job_parts.specs.declared.receipt_input.NoReceipt.{NoReceipt}
use Rattle.escpos_job_parts.specs.declared.receipt_input.NoReceipt.TheVariants as none
use Rattle.escpos_job_parts.specs.declared.status.Status.{Status}
use Rattle.escpos_job_parts.specs.declared.status.Status.TheVariants.{Device, Memory, Refused}
use Rattle.escpos_job_parts.specs.Ending.{PrintsText, memory_line}
use Rattle.escpos_job_parts.specs.Refusal.{refusal_line}
use Rattle.escpos_receipt.specs.declared.json.JsonError.TheVariants as json
use Rattle.escpos_receipt.specs.declared.options.ReceiptOptions.{ReceiptOptions}
use Rattle.escpos_receipt.specs.Describes.{IsFaultWith}
use Rattle.escpos_till.specs.declared.entry.Content.{Content}
use Rattle.escpos_till.specs.Contents.{GivesReceipt, TextGives, content_with}
use Rattle.escpos_till.specs.Driver.{Deed}
use Rattle.escpos_till_jobs.specs.declared.deliver.Delivery.{Delivery}
use Rattle.escpos_till_jobs.specs.declared.link_line.Waits.{Waits}
use Rattle.escpos_till_jobs.specs.declared.task.TillTask.{TillTask}
use Rattle.escpos_till_jobs.specs.declared.task.TillTask.TheVariants as task
use Rattle.escpos_till_jobs.specs.declared.word.Word.TheVariants as word
use Rattle.escpos_till_jobs.specs.Outputs.{Output, ended}
use Rattle.escpos_till_jobs.specs.Words.{InLedger, Place}

-- ## A receipt's text

-- The input, where it can be known, gives this receipt with these options.
pub record Reads (options : ReceiptOptions) (came : Option (List ℕ)) (content : Content) : Type 0 where
  pub text : IfSome came (λ bytes. (length bytes ≤ INPUT_LIMIT) × (content ≡ content_with options bytes))
  pub receipt : GivesReceipt content
  pub described : TextGives options content.text

-- Why the input gives none, and what is printed; where the input itself has failed, nothing is.
abbrev pub RefusesFor : NoReceipt → ReceiptOptions → Option (List ℕ) → Bool → Output → Output → Status → Type 0
RefusesFor (none.Input input.TooLong) options came failed before end status = IfSome came (λ text. INPUT_LIMIT < length text) × PrintsText (ended before end status) (codes "refused input\n") Refused
RefusesFor (none.Input input.Device) options came failed before end status = IsTrue failed × (status ≡ Device) × (end ≡ before)
RefusesFor (none.Input input.Memory) options came failed before end status = PrintsText (ended before end status) memory_line Memory
RefusesFor (none.Input input.NotHexadecimal) options came failed before end status = ⊥
RefusesFor (none.Text (json.Refused why)) options came failed before end status =
    IfSome came (λ text. (length text ≤ INPUT_LIMIT) × IsFaultWith options why text) × PrintsText (ended before end status) (refusal_line why) Refused
RefusesFor (none.Text json.Memory) options came failed before end status = PrintsText (ended before end status) memory_line Memory

-- ## At a path

-- A receipt is read, and taken into the ledger at the path, with the key that it comes with; or it is refused, and no ledger is opened.
abbrev pub QueuesAt : {F S L : Type 0} → Place F S → (L → Deed → L → Type 0) → Option (List ℕ) → Bool → F → Output → F → Output → Status → List ℕ → ReceiptOptions → Option (List ℕ) → Type 0
QueuesAt {F} {S} {L} p did came failed ledgers before after end status path options key =
    ((fault : NoReceipt) × (after ≡ ledgers) × RefusesFor fault options came failed before end status)
    ⊎ ((content : Content) × Reads options came content × (line new : L) × InLedger p did path (word.Queue content key) ledgers line before after new end status)

-- The receipt with this number is taken once more into the ledger at the path.
abbrev pub QueuesAgainAt : {F S L : Type 0} → Place F S → (L → Deed → L → Type 0) → F → Output → F → Output → Status → List ℕ → ℕ → Type 0
QueuesAgainAt {F} {S} {L} p did ledgers before after end status path number = (line new : L) × InLedger p did path (word.Again number) ledgers line before after new end status

-- What is known of lines.
pub record Way (P L : Type 0) : Type 1 where
  pub made : P → Address → Waits → L → P → Type 0
  pub ended : P → L → P → Type 0

abbrev pub way : {P L : Type 0} → (P → Address → Waits → L → P → Type 0) → (P → L → P → Type 0) → Way P L
way made ended = record { made = made; ended = ended }

-- A line is made for the delivery's address, with this wait and the delivery's patience, the receipts that wait are delivered over it, and it is taken back. No other is made.
abbrev pub DeliversAt : {F S P L : Type 0} → Place F S → Way P L → (L → Deed → L → Type 0) → Option ℕ → F → P → Output → F → P → Output → Status → List ℕ → Delivery → Type 0
DeliversAt {F} {S} {P} {L} p by did wait ledgers lines before after lines_after end status path delivery =
    (line new : L) × (mid : P) × by.made lines delivery.address (record { wait = wait; patience = delivery.patience }) line mid × InLedger p did path (word.Deliver delivery) ledgers line before after new end status × by.ended mid new lines_after

abbrev pub CancelsAt : {F S L : Type 0} → Place F S → (L → Deed → L → Type 0) → F → Output → F → Output → Status → List ℕ → ℕ → Type 0
CancelsAt {F} {S} {L} p did ledgers before after end status path number = (line new : L) × InLedger p did path (word.Cancel number) ledgers line before after new end status

abbrev pub ListsAt : {F S L : Type 0} → Place F S → (L → Deed → L → Type 0) → F → Output → F → Output → Status → List ℕ → Option ℕ → Type 0
ListsAt {F} {S} {L} p did ledgers before after end status path first = (line new : L) × InLedger p did path (word.List first) ledgers line before after new end status

-- ## By the task

-- This holds of a task of that kind.
abbrev pub OfQueue : (List ℕ → ReceiptOptions → Option (List ℕ) → Type 0) → TillTask → Type 0
OfQueue Holds (task.Queue path options key) = Holds path options key
OfQueue Holds t = Unit {0}

abbrev pub OfQueueRaw : (List ℕ → ℕ → Option (List ℕ) → Type 0) → TillTask → Type 0
OfQueueRaw Holds (task.QueueRaw path width key) = Holds path width key
OfQueueRaw Holds t = Unit {0}

abbrev pub OfQueueAgain : (List ℕ → ℕ → Type 0) → TillTask → Type 0
OfQueueAgain Holds (task.QueueAgain path number) = Holds path number
OfQueueAgain Holds t = Unit {0}

abbrev pub OfDeliver : (List ℕ → Delivery → Option ℕ → Type 0) → TillTask → Type 0
OfDeliver Holds (task.Deliver path delivery wait) = Holds path delivery wait
OfDeliver Holds t = Unit {0}

abbrev pub OfCancel : (List ℕ → ℕ → Type 0) → TillTask → Type 0
OfCancel Holds (task.Cancel path number) = Holds path number
OfCancel Holds t = Unit {0}

abbrev pub OfList : (List ℕ → Option ℕ → Type 0) → TillTask → Type 0
OfList Holds (task.List path first) = Holds path first
OfList Holds t = Unit {0}

abbrev pub OfRenew : (List ℕ → List ℕ → Type 0) → TillTask → Type 0
OfRenew Holds (task.Renew path new) = Holds path new
OfRenew Holds t = Unit {0}

-- This holds unless the task is to deliver.
abbrev pub UnlessDeliver : Type 0 → TillTask → Type 0
UnlessDeliver Holds (task.Deliver path delivery wait) = Unit {0}
UnlessDeliver Holds t = Holds

-- This holds unless the task is to deliver, or to renew a ledger.
abbrev pub UnlessShared : Type 0 → TillTask → Type 0
UnlessShared Holds (task.Deliver path delivery wait) = Unit {0}
UnlessShared Holds (task.Renew path new) = Unit {0}
UnlessShared Holds t = Holds

-- This holds if it is.
abbrev pub IfShared : Type 0 → TillTask → Type 0
IfShared Holds (task.Deliver path delivery wait) = Holds
IfShared Holds (task.Renew path new) = Holds
IfShared Holds t = Unit {0}

-- This holds unless the task is to renew a ledger.
abbrev pub UnlessRenew : Type 0 → TillTask → Type 0
UnlessRenew Holds (task.Renew path new) = Unit {0}
UnlessRenew Holds t = Holds

-- This holds if the task is to take a receipt that is read.
abbrev pub OfReading : Type 0 → TillTask → Type 0
OfReading Holds (task.Queue path options key) = Holds
OfReading Holds (task.QueueRaw path width key) = Holds
OfReading Holds t = Unit {0}

-- This holds unless the task is to take a receipt that is read.
abbrev pub UnlessReading : Type 0 → TillTask → Type 0
UnlessReading Holds (task.Queue path options key) = Unit {0}
UnlessReading Holds (task.QueueRaw path width key) = Unit {0}
UnlessReading Holds t = Holds
