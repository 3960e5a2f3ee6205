-- What a word does with a store, and with a ledger at a path.
use Rattle.std.specs.Prelude.{ℕ, ◌≡◌, ◌≢◌, ◌⊎◌, Option, List, [], Result, Ok, Err}
use Rattle.escpos_job_parts.specs.declared.status.Status.{Status}
use Rattle.escpos_job_parts.specs.Ending.{Tells}
use Rattle.escpos_till.specs.declared.entry.Entry.{Entry}
use Rattle.escpos_till.specs.declared.store.NoStore.{NoStore}
use Rattle.escpos_till.specs.declared.store.NoStore.TheVariants as none
use Rattle.escpos_till.specs.declared.store.StoreFault.{StoreFault}
use Rattle.escpos_till.specs.declared.store.StoreFault.TheVariants as store
use Rattle.escpos_till.specs.declared.surroundings.Surroundings.{Surroundings}
use Rattle.escpos_till.specs.Driver.{Cancel, Deed, Queue}
use Rattle.escpos_till.specs.Entries.{IsLedger}
use Rattle.escpos_till.specs.Machine.{MachineView, RefusesAny, RefusesCancel}
use Rattle.escpos_till.specs.Surroundings.{Did}
use Rattle.escpos_till_jobs.specs.declared.outcome.Outcome.{Outcome}
use Rattle.escpos_till_jobs.specs.declared.word.Word.{Word}
use Rattle.escpos_till_jobs.specs.declared.word.Word.TheVariants as word
use Rattle.escpos_till_jobs.specs.Again.{QueuesAgain}
use Rattle.escpos_till_jobs.specs.Delivering.{DeliversAndTells}
use Rattle.escpos_till_jobs.specs.Lines.{no_store_line, no_store_status}
use Rattle.escpos_till_jobs.specs.Opening.{Opens}
use Rattle.escpos_till_jobs.specs.Outcomes.{BecomesAndTells, RaisesAndLists, RaisesFirst}
use Rattle.escpos_till_jobs.specs.Outputs.{Output, ended}

-- ## With a machine

-- A receipt is taken, or taken once more, the receipts that wait are delivered, one is cancelled, or all are listed.
abbrev pub WordDoes : {S L : Type 0} → (S → Type 0) → (S → List Entry → Type 0) → (S → List Entry → Type 0) → (S → List Entry → StoreFault → S → Type 0) → (L → Deed → L → Type 0) → Word
    → MachineView → Surroundings S L → Output → MachineView → Surroundings S L → Output → Status → Type 0
WordDoes faithful holds leaves says did (word.Queue content key) m old before after new end status =
    BecomesAndTells (Did faithful holds leaves says did) (RefusesAny m) m old (Queue content key) after new (ended before end status)
WordDoes faithful holds leaves says did (word.Again number) m old before after new end status = QueuesAgain faithful holds leaves says did number m old after new (ended before end status)
WordDoes faithful holds leaves says did (word.Deliver delivery) m old before after new end status = DeliversAndTells (Did faithful holds leaves says did) delivery m old before after new end status
WordDoes faithful holds leaves says did (word.Cancel number) m old before after new end status =
    BecomesAndTells (Did faithful holds leaves says did) (RefusesCancel m number) m old (Cancel number) after new (ended before end status)
WordDoes faithful holds leaves says did (word.List first) m old before after new end status = RaisesAndLists (Did faithful holds leaves says did) m old first after new (ended before end status)

-- ## With a store

abbrev pub around : {S L : Type 0} → S → L → Surroundings S L
around store line = record { store = store; line = line }

-- There is no ledger for this reason, and the store has what it had.
pub record NoLedgerIn {S : Type 0} (faithful : S → Type 0) (holds leaves : S → List Entry → Type 0) (says : S → List Entry → StoreFault → S → Type 0) (old : S) (why : NoStore) (new : S) : Type 0 where
  pub was_faithful : faithful new → faithful old
  pub no_ledger : why ≡ none.NoLedger → faithful new → (entries : List Entry) → holds old entries → ¬ IsLedger entries
  pub failed : why ≡ none.Failed → says old [] store.Failed new
  pub keeps : faithful new → (entries left : List Entry) → holds old entries → leaves new left → left ≡ entries
  pub never_in_use : why ≢ none.InUse

-- The ledger is opened, and then the word is done with its machine and what surrounds it; or there is none, the line says why, and nothing is done over the line.
abbrev pub DoesWith : {S L : Type 0} → (S → Type 0) → (S → List Entry → Type 0) → (S → List Entry → Type 0) → (S → List Entry → StoreFault → S → Type 0) → (L → Deed → L → Type 0) → Word
    → Surroundings S L → Output → Surroundings S L → Output → Status → Type 0
DoesWith {S} faithful holds leaves says did w old before new end status =
    ((why : NoStore) × NoLedgerIn faithful holds leaves says old.store why new.store × (new.line ≡ old.line) × Tells (ended before end status) (no_store_line why) (no_store_status why))
    ⊎ ((m after : MachineView) × (opened : S) × Opens faithful holds old.store m opened × (faithful opened → faithful old.store)
    × WordDoes faithful holds leaves says did w m (around opened old.line) before after new end status)

-- The ledger is opened, and its next mark number raised, if one is given; or this came instead.
abbrev pub FindsStates : {S L : Type 0} → (S → Type 0) → (S → List Entry → Type 0) → (S → List Entry → Type 0) → (S → List Entry → StoreFault → S → Type 0) → (L → Deed → L → Type 0) → Option ℕ
    → Surroundings S L → MachineView → Option Outcome → Surroundings S L → Type 0
FindsStates {S} faithful holds leaves says did first old after instead new =
    (m : MachineView) × (opened : S) × Opens faithful holds old.store m opened × (faithful opened → faithful old.store)
    × RaisesFirst (Did faithful holds leaves says did) m (around opened old.line) first instead after new

-- ## At a path

-- What is known of ledgers, and of the stores that they are in.
pub record Place (F S : Type 0) : Type 1 where
  pub opened : F → List ℕ → Result S NoStore → F → Type 0
  pub closed : F → S → F → Type 0
  pub faithful : S → Type 0
  pub holds : S → List Entry → Type 0
  pub leaves : S → List Entry → Type 0
  pub says : S → List Entry → StoreFault → S → Type 0

abbrev pub place : {F S : Type 0} → (F → List ℕ → Result S NoStore → F → Type 0) → (F → S → F → Type 0) → (S → Type 0) → (S → List Entry → Type 0) → (S → List Entry → Type 0) → (S → List Entry → StoreFault → S → Type 0) → Place F S
place opened closed faithful holds leaves says = record { opened = opened; closed = closed; faithful = faithful; holds = holds; leaves = leaves; says = says }

-- The store at the path is opened, the word is done with it, and it is closed; or there is none, and the line says why. No other is opened or closed.
abbrev pub InLedger : {F S L : Type 0} → Place F S → (L → Deed → L → Type 0) → List ℕ → Word → F → L → Output → F → L → Output → Status → Type 0
InLedger {F} {S} {L} p did path w ledgers line before after new end status =
    ((why : NoStore) × p.opened ledgers path (Err why) after × (new ≡ line) × Tells (ended before end status) (no_store_line why) (no_store_status why))
    ⊎ ((opened left : S) × (mid : F) × p.opened ledgers path (Ok opened) mid
    × DoesWith p.faithful p.holds p.leaves p.says did w (around opened line) before (around left new) end status × p.closed mid left after)
