-- What came of a call of a till's machine.
use Rattle.std.specs.Prelude.{ℕ, ◌≡◌, ◌≢◌, ◌⊎◌, Option, Some, None, List, IsTrue}
use Rattle.escpos_job_parts.specs.declared.status.Status.TheVariants.{Good, Device}
use Rattle.escpos_job_parts.specs.Ending.{JobEnd, Tells}
use Rattle.escpos_till.specs.declared.entry.Entry.{Entry}
use Rattle.escpos_till.specs.declared.note.TillNote.{TillNote}
use Rattle.escpos_till.specs.declared.note.TillNote.TheVariants as note
use Rattle.escpos_till.specs.declared.note.TillRefusal.{TillRefusal}
use Rattle.escpos_till.specs.Book.{IsBookOf}
use Rattle.escpos_till.specs.Driver.{Call, Deed, GivesUp, Raise, RanFor, RanTo, Serves}
use Rattle.escpos_till.specs.Machine.{MachineView, RefusesRaise, SameEntries}
use Rattle.escpos_till_jobs.specs.declared.outcome.Outcome.{Outcome}
use Rattle.escpos_till_jobs.specs.declared.outcome.Outcome.TheVariants as outcome
use Rattle.escpos_till_jobs.specs.declared.outcome.TheConstants.{MOST_DEEDS}
use Rattle.escpos_till_jobs.specs.Lines.{listing_text, note_line, note_status, outcome_line, outcome_status}

-- The receipt is recorded, or cancelled: it waits no more.
abbrev pub Settles : TillNote → Type 0
Settles (note.Recorded number) = Unit {0}
Settles (note.Cancelled number tried) = Unit {0}
Settles n = ⊥

-- It is, which the output didn't take; or it isn't, and the line says so.
abbrev pub NoteEnds : TillNote → JobEnd → Type 0
NoteEnds n o = (Settles n × (o.status ≡ Device) × IsTrue o.failed) ⊎ ((¬ Settles n) × Tells o (note_line n) (note_status n))

-- What the machine asked for since a call was done.
abbrev pub Follows : {D : Type 0} → (D → Deed → D → Type 0) → MachineView → D → Outcome → MachineView → D → Type 0
Follows did asked old (outcome.Refused why) after new = ⊥
Follows did asked old (outcome.Told n) after new = RanTo did asked old n MOST_DEEDS after new
Follows did asked old outcome.GivenUp after new = RanFor did asked old after new MOST_DEEDS

-- This call came to this; `Refuses` says when it is refused.
abbrev pub Becomes : {D : Type 0} → (D → Deed → D → Type 0) → (TillRefusal → Type 0) → MachineView → D → Call → Outcome → MachineView → D → Type 0
Becomes did Refuses m old call (outcome.Refused why) after new = Refuses why × SameEntries m after × (new ≡ old)
Becomes did Refuses m old call (outcome.Told n) after new = Serves did m old call n MOST_DEEDS after new
Becomes did Refuses m old call outcome.GivenUp after new = GivesUp did m old call MOST_DEEDS after new

-- It is printed.
pub record BecomesAndTells {D : Type 0} (did : D → Deed → D → Type 0) (Refuses : TillRefusal → Type 0) (m : MachineView) (old : D) (call : Call) (after : MachineView) (new : D) (o : JobEnd) : Type 0 where
  pub became : Outcome
  pub becomes : Becomes did Refuses m old call became after new
  pub tells : Tells o (outcome_line became) (outcome_status became)

-- What the entries say is printed.
abbrev pub Lists : MachineView → JobEnd → Type 0
Lists m o = (entries : List Entry) → IsBookOf m.book entries → Tells o (listing_text entries) Good

-- The next mark number is raised, if one is given; or this came instead.
abbrev pub RaisesFirst : {D : Type 0} → (D → Deed → D → Type 0) → MachineView → D → Option ℕ → Option Outcome → MachineView → D → Type 0
RaisesFirst did m old None None after new = (after ≡ m) × (new ≡ old)
RaisesFirst did m old None (Some became) after new = ⊥
RaisesFirst did m old (Some first) None after new = Serves did m old (Raise first) note.Raised MOST_DEEDS after new
RaisesFirst did m old (Some first) (Some became) after new = (became ≢ outcome.Told note.Raised) × Becomes did (RefusesRaise m first) m old (Raise first) became after new

-- What the entries say is printed, or what came instead.
abbrev pub ListsUnless : Option Outcome → MachineView → JobEnd → Type 0
ListsUnless None m o = Lists m o
ListsUnless (Some became) m o = Tells o (outcome_line became) (outcome_status became)

-- The next mark number is raised first, if one is given; if it can't be, nothing is listed.
pub record RaisesAndLists {D : Type 0} (did : D → Deed → D → Type 0) (m : MachineView) (old : D) (first : Option ℕ) (after : MachineView) (new : D) (o : JobEnd) : Type 0 where
  pub instead : Option Outcome
  pub raises : RaisesFirst did m old first instead after new
  pub lists : ListsUnless instead after o
