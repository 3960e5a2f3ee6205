-- What a machine does when it learns that others have added entries to its ledger.
--
-- A machine that delivers has its ledger to itself only while it keeps an entry. Between two of its entries others may take receipts, with keys or
-- without, raise the next mark number and cancel receipts. None of them tries a receipt or records one, since no two machines deliver at
-- the same time.
use Rattle.std.specs.Prelude.{ℕ, ◌≡◌, ◌⊎◌, ◌+◌, ◌<◌, ◌≤◌, List, [], ◌∷◌, ◌++◌}
use Rattle.std.specs.List.{AllByRecursion}
use Rattle.escpos_host.specs.declared.host.HostError.TheVariants as error
use Rattle.escpos_host.specs.declared.send.SendFault.TheVariants as fault
use Rattle.escpos_host.specs.Machine.{HostView, limit_from}
use Rattle.escpos_till.specs.declared.book.Book.{Book}
use Rattle.escpos_till.specs.declared.entry.Entry.{Entry}
use Rattle.escpos_till.specs.declared.entry.Entry.TheVariants as entry
use Rattle.escpos_till.specs.declared.stage.Stage.{Stage}
use Rattle.escpos_till.specs.declared.stage.Stage.TheVariants as stage
use Rattle.escpos_till.specs.declared.stage.Then.{Then}
use Rattle.escpos_till.specs.declared.stage.Then.TheVariants as then
use Rattle.escpos_till.specs.declared.note.TillNote.TheVariants as note
use Rattle.escpos_till.specs.declared.state.ReceiptState.TheVariants as state
use Rattle.escpos_till.specs.declared.store.StoreFault.{StoreFault}
use Rattle.escpos_till.specs.declared.store.StoreFault.TheVariants as store
use Rattle.escpos_till.specs.Book.{IsBookOf}
use Rattle.escpos_till.specs.Delivers.{marks_taken}
use Rattle.escpos_till.specs.Entries.{IsLedger, MayFollow, Waits, earlier, last_number, state_of}
use Rattle.escpos_till.specs.Further.{GoesFurther}
use Rattle.escpos_till.specs.Machine.{Drops, MachineView, lost, printed}

-- ## What others add

-- Others may add this entry while a machine delivers.
abbrev pub IsOthers : Entry → Type 0
IsOthers (entry.Queued content) = Unit {0}
IsOthers (entry.Tried number next) = ⊥
IsOthers (entry.Recorded number h) = ⊥
IsOthers (entry.Raised next h) = Unit {0}
IsOthers (entry.Cancelled number) = Unit {0}
IsOthers (entry.Key key) = Unit {0}
IsOthers (entry.Renewed last h) = ⊥
IsOthers (entry.Earlier number key) = ⊥

-- In a ledger each of these entries may come after those, and after the ones before it.
abbrev pub FollowAll : List Entry → List Entry → Type 0
FollowAll before [] = Unit {0}
FollowAll before (e ∷ es) = MayFollow before e × FollowAll (before ++ e ∷ []) es

-- Others may have added these entries after those.
pub record AreOthers (before others : List Entry) : Type 0 where
  pub each : AllByRecursion IsOthers others
  pub follow : FollowAll before others

-- ## What a machine knows then

-- Of the entries that this is the book of, the receipt waits, or it is cancelled.
abbrev pub StandsIn : Book → ℕ → Type 0
StandsIn b number =
    (entries : List Entry) × IsBookOf b entries × (earlier entries < number) × (number ≤ last_number entries)
    × ((tried : ℕ) × ((state_of entries number ≡ state.Waiting tried) ⊎ (state_of entries number ≡ state.Cancelled tried)))

-- So does the receipt that a machine delivers.
abbrev pub WaitsOrCancelled : Book → Then → Type 0
WaitsOrCancelled b (then.Send due) = StandsIn b due.number
WaitsOrCancelled b (then.Recorded number) = StandsIn b number
WaitsOrCancelled b (then.GoOn number tried due) = StandsIn b number
WaitsOrCancelled b next = Unit {0}

-- These entries, each of which may follow, are taken into account.
abbrev pub NotesAll : Book → List Entry → Book → Type 0
NotesAll old others new = (entries : List Entry) → IsBookOf old entries → IsLedger entries → FollowAll entries others × IsBookOf new (entries ++ others)

-- Of the entries that this is the book of, the receipt waits.
abbrev pub WaitsIn : Book → ℕ → Type 0
WaitsIn b number = (entries : List Entry) → IsBookOf b entries → Waits entries number

-- One of the others has cancelled the receipt, which was tried so often: the link is given up, if there is one.
abbrev pub EndsCancelled : Book → ℕ → HostView → HostView → Stage → Type 0
EndsCancelled b number before h s =
    (tried : ℕ) × ((entries : List Entry) → IsBookOf b entries → state_of entries number ≡ state.Cancelled tried) × Drops before h
    × (s ≡ stage.HangingUp (note.Cancelled number tried))

-- What is to be kept then, where this is the book: a try has the mark numbers that are free then, if there are as many. A receipt that was
-- to be sent over the link of the one before isn't: the link is given up.
abbrev pub Revises : Then → Book → HostView → HostView → Stage → Type 0
Revises (then.Send due) b before h s =
    (WaitsIn b due.number × (b.next + marks_taken due.openings ≤ limit_from b.heard) × (h ≡ before)
    × (s ≡ stage.Keeping (entry.Tried due.number (b.next + marks_taken due.openings)) (then.Send due)))
    ⊎ ((WaitsIn b due.number × (limit_from b.heard < b.next + marks_taken due.openings) × Drops before h × (s ≡ stage.HangingUp (note.Waiting due.number (fault.Refused error.MarksUsedUp))))
    ⊎ EndsCancelled b due.number before h s)
Revises (then.Recorded number) b before h s = (WaitsIn b number × (h ≡ before) × (s ≡ printed b number before)) ⊎ EndsCancelled b number before h s
Revises (then.GoOn number tried due) b before h s =
    (WaitsIn b number × (h ≡ before) × ((s ≡ printed b number before) ⊎ GoesFurther b number due.further before s)) ⊎ EndsCancelled b number before h s
Revises (then.SendNext recorded due) b before h s = Drops before h × (s ≡ stage.HangingUp (note.Recorded recorded))
Revises next b before h s = ⊥

-- A machine delivers, as others may while it has let go of its ledger.
abbrev pub IsDelivering : Then → Type 0
IsDelivering (then.Send due) = Unit {0}
IsDelivering (then.Recorded number) = Unit {0}
IsDelivering (then.GoOn number tried due) = Unit {0}
IsDelivering (then.SendNext recorded due) = Unit {0}
IsDelivering next = ⊥

-- It fails for this reason: out of memory; or others may not have added these entries. A machine that delivers nothing fails, as nobody
-- else may add any.
abbrev pub NotLearned : Then → List Entry → Book → StoreFault → Type 0
NotLearned next others b store.Memory = Unit {0}
NotLearned next others b store.Failed = IsDelivering next → (entries : List Entry) → IsBookOf b entries → IsLedger entries → ¬ AreOthers entries others

-- It takes them into account, and asks for what is to be kept then.
abbrev pub LearnsAll : Then → List Entry → MachineView → MachineView → Type 0
LearnsAll next others m after = AllByRecursion IsOthers others × NotesAll m.book others after.book × Revises next after.book m.host after.host after.stage

-- It fails.
abbrev pub FailsToLearn : Then → List Entry → StoreFault → MachineView → MachineView → Type 0
FailsToLearn next others why m after = NotLearned next others m.book why × Drops m.host after.host × (after.stage ≡ lost next why)

-- Others have added these entries before the one that the machine asked for, which isn't kept.
abbrev pub Learned : Stage → List Entry → MachineView → MachineView → Type 0
Learned (stage.Keeping e next) others m after = LearnsAll next others m after ⊎ ((why : StoreFault) × FailsToLearn next others why m after)
Learned s others m after = after ≡ m

-- A machine that is to keep an entry, after which this follows: this holds.
abbrev pub IfKeeping : Stage → (Then → Type 0) → Type 0
IfKeeping (stage.Keeping e next) Holds = Holds next
IfKeeping s Holds = Unit {0}
