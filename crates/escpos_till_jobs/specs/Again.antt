-- What `queue --again` does: a receipt that was taken is taken once more.
use Rattle.std.specs.Prelude.{ℕ, ◌≡◌, ◌⊎◌, ◌<◌, ◌≤◌, None, Some, List, [], codes, slice_get}
use Rattle.escpos_job_parts.specs.declared.status.Status.TheVariants.{Memory, Refused}
use Rattle.escpos_job_parts.specs.Ending.{JobEnd, PrintsText, Tells, memory_line}
use Rattle.escpos_job_parts.specs.Refusal.{refusal_line}
use Rattle.escpos_receipt.specs.declared.json.JsonError.TheVariants as json
use Rattle.escpos_till.specs.declared.entry.Content.{Content}
use Rattle.escpos_till.specs.declared.entry.Entry.{Entry}
use Rattle.escpos_till.specs.declared.note.TillNote.TheVariants as note
use Rattle.escpos_till.specs.declared.store.StoreFault.{StoreFault}
use Rattle.escpos_till.specs.declared.surroundings.Surroundings.{Surroundings}
use Rattle.escpos_till.specs.Contents.{GivesReceipt}
use Rattle.escpos_till.specs.Delivers.{WhyNone}
use Rattle.escpos_till.specs.Driver.{Deed, Queue}
use Rattle.escpos_till.specs.Entries.{contents, earlier, last_number, place_here}
use Rattle.escpos_till.specs.Machine.{MachineView, RefusesAny}
use Rattle.escpos_till.specs.Surroundings.{Did}
use Rattle.escpos_till_jobs.specs.declared.again.NotAgain.{NotAgain}
use Rattle.escpos_till_jobs.specs.declared.again.NotAgain.TheVariants as why
use Rattle.escpos_till_jobs.specs.Lines.{note_line, note_status, number_line}
use Rattle.escpos_till_jobs.specs.Outcomes.{BecomesAndTells}

-- ## The receipt

-- The receipt that has this number, of those that were taken, has this content.
abbrev pub HasContent : List Entry → ℕ → Content → Type 0
HasContent entries number content = (earlier entries < number) × (slice_get (contents entries) (place_here entries number) ≡ Some content)

-- Why there is nothing to take once more: so many receipts were never taken; an older ledger has taken the one with this number; or the text of it
-- gives none.
abbrev pub HasNone : NotAgain → List Entry → ℕ → Type 0
HasNone why.NotTaken entries number = last_number entries < number
HasNone why.Earlier entries number = number ≤ earlier entries
HasNone (why.Text error) entries number = (content : Content) × HasContent entries number content × WhyNone error content

-- The line that says so.
abbrev pub RefusesAgain : NotAgain → ℕ → JobEnd → Type 0
RefusesAgain why.NotTaken number o = Tells o (number_line (codes "refused NotTaken ") number) Refused
RefusesAgain why.Earlier number o = Tells o (number_line (codes "refused Earlier ") number) Refused
RefusesAgain (why.Text (json.Refused fault)) number o = PrintsText o (refusal_line fault) Refused
RefusesAgain (why.Text json.Memory) number o = PrintsText o memory_line Memory

-- ## The store

-- These entries were read from the store, and nothing was done over the line.
pub record Reads {S L : Type 0} (faithful : S → Type 0) (holds : S → List Entry → Type 0) (old : Surroundings S L) (entries : List Entry) (new : Surroundings S L) : Type 0 where
  pub was_faithful : faithful new.store → faithful old.store
  pub held : faithful new.store → holds old.store entries × holds new.store entries
  pub line : new.line ≡ old.line

-- They weren't for this reason; the store has what it had.
pub record Misreads {S L : Type 0} (faithful : S → Type 0) (holds leaves : S → List Entry → Type 0) (says : S → List Entry → StoreFault → S → Type 0) (old : Surroundings S L) (fault : StoreFault) (new : Surroundings S L) : Type 0 where
  pub was_faithful : faithful new.store → faithful old.store
  pub said : says old.store [] fault new.store
  pub keeps : faithful new.store → (entries left : List Entry) → holds old.store entries → leaves new.store left → left ≡ entries
  pub line : new.line ≡ old.line

-- ## The word

-- The content of the receipt is taken, as by `queue`; or there is none, the line says why, and nothing is kept.
abbrev pub TakesAgain : {D : Type 0} → (D → Deed → D → Type 0) → List Entry → ℕ → MachineView → D → MachineView → D → JobEnd → Type 0
TakesAgain did entries number m old after new o =
    ((content : Content) × HasContent entries number content × GivesReceipt content × BecomesAndTells did (RefusesAny m) m old (Queue content None) after new o)
    ⊎ ((none : NotAgain) × HasNone none entries number × RefusesAgain none number o × (after ≡ m) × (new ≡ old))

-- The entries are read from the store, and the receipt is taken once more; or they can't be read, and the line says why.
abbrev pub QueuesAgain : {S L : Type 0} → (S → Type 0) → (S → List Entry → Type 0) → (S → List Entry → Type 0) → (S → List Entry → StoreFault → S → Type 0) → (L → Deed → L → Type 0) → ℕ
    → MachineView → Surroundings S L → MachineView → Surroundings S L → JobEnd → Type 0
QueuesAgain {S} {L} faithful holds leaves says did number m old after new o =
    ((fault : StoreFault) × Misreads faithful holds leaves says old fault new × (after ≡ m) × Tells o (note_line (note.NotKept fault)) (note_status (note.NotKept fault)))
    ⊎ ((entries : List Entry) × (mid : Surroundings S L) × Reads faithful holds old entries mid × TakesAgain (Did faithful holds leaves says did) entries number m mid after new o)
