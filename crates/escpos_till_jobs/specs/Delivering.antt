-- What `deliver` does with the receipts that wait, and what it prints of them.
use Rattle.std.specs.Prelude.{ℕ, true, ◌≡◌, ◌⊎◌, List, [], ◌∷◌, ◌++◌, length, map, IsTrue}
use Rattle.escpos_tcp_jobs.specs.declared.send.TheConstants.{ANSWERS_LIMIT}
use Rattle.escpos_job_parts.specs.declared.status.Status.{Status}
use Rattle.escpos_job_parts.specs.declared.status.Status.TheVariants.{Good, Device}
use Rattle.escpos_job_parts.specs.Ending.{Tells}
use Rattle.escpos_till.specs.declared.note.TillNote.{TillNote}
use Rattle.escpos_till.specs.declared.note.TillRefusal.{TillRefusal}
use Rattle.escpos_till.specs.Driver.{Answered, Call, Deed, Deliver, Serves}
use Rattle.escpos_till.specs.Machine.{MachineView, RefusesDeliver}
use Rattle.escpos_till_jobs.specs.declared.deliver.Delivery.{Delivery}
use Rattle.escpos_till_jobs.specs.declared.deliver.TheConstants.{MOST_ROUNDS}
use Rattle.escpos_till_jobs.specs.declared.outcome.Outcome.{Outcome}
use Rattle.escpos_till_jobs.specs.declared.outcome.Outcome.TheVariants as outcome
use Rattle.escpos_till_jobs.specs.declared.outcome.TheConstants.{MOST_DEEDS}
use Rattle.escpos_till_jobs.specs.Lines.{note_line, outcome_line, outcome_status}
use Rattle.escpos_till_jobs.specs.Outcomes.{Becomes, Settles}
use Rattle.escpos_till_jobs.specs.Outputs.{Output, Took, ended}
use Rattle.escpos_till_jobs.specs.News.{news_lines}

-- What is asked of a machine.
abbrev pub asked : Delivery → Call
asked delivery = Deliver delivery.openings ANSWERS_LIMIT delivery.copy true

-- What is asked, and told of these receipts.
abbrev pub served_by : Delivery → List TillNote → List Answered
served_by delivery notes = map (λ n. record { call = asked delivery; note = n }) notes

-- Receipts were delivered over a link, one after another. Each but the last is recorded; the last is, too, or it is cancelled. The output has taken
-- a line for each, and for each pause of the printer.
pub record RoundGoes {D : Type 0} (did : D → Deed → D → Type 0) (delivery : Delivery) (m : MachineView) (old : D) (before : Output) (after : MachineView) (new : D) (end : Output) : Type 0 where
  pub note : TillNote
  pub settles : Settles note
  pub serves : Serves did m old (asked delivery) note MOST_DEEDS after new
  pub told : Took before (news_lines serves.runs.before ++ note_line note) end

-- Receipts were delivered, recorded or found cancelled, and told, link after link; nothing else was done. The next link is made only where the
-- output has taken all lines of the one before.
pub data Rounds {D : Type 0} (did : D → Deed → D → Type 0) (delivery : Delivery) (m : MachineView) (old : D) (before : Output) : List TillNote → MachineView → D → Output → Type 0 where
  none : Rounds did delivery m old before [] m old before
  more : (notes : List TillNote) (mid : MachineView) (between : D) (heard : Output) (after : MachineView) (new : D) (end : Output) (goes : RoundGoes did delivery mid between heard after new end) (all : List TillNote)
      → Rounds did delivery m old before notes mid between heard → all ≡ notes ++ goes.note ∷ [] → Rounds did delivery m old before all after new end

abbrev pub IsSettled : Outcome → Type 0
IsSettled o = (n : TillNote) × Settles n × (o ≡ outcome.Told n)

-- The lines of the news while this was done.
abbrev pub lines_in : {D : Type 0} (did : D → Deed → D → Type 0) (Refuses : TillRefusal → Type 0) (m : MachineView) (old : D) (call : Call) (became : Outcome) (after : MachineView) (new : D)
    → Becomes did Refuses m old call became after new → List ℕ
lines_in did Refuses m old call (outcome.Refused why) after new becomes = []
lines_in did Refuses m old call (outcome.Told n) after new becomes = news_lines becomes.runs.before
lines_in did Refuses m old call outcome.GivenUp after new becomes = news_lines becomes.runs.run.deeds

-- The last receipt that was sent is recorded or cancelled, but the output has failed, and so no further link is made; or it is neither, or
-- none waits, and the last line says so.
abbrev pub RoundEnds : {D : Type 0} → (D → Deed → D → Type 0) → Delivery → MachineView → D → Output → MachineView → D → Output → Status → Type 0
RoundEnds did delivery m old before after new end status =
    ((n : TillNote) × Settles n × Serves did m old (asked delivery) n MOST_DEEDS after new × (status ≡ Device) × IsTrue end.failed)
    ⊎ ((became : Outcome) × (becomes : Becomes did (RefusesDeliver m delivery.openings) m old (asked delivery) became after new) × (¬ IsSettled became)
    × Tells (ended before end status) (lines_in did (RefusesDeliver m delivery.openings) m old (asked delivery) became after new becomes ++ outcome_line became) (outcome_status became))

-- So many receipts were told of that no more are delivered.
pub record EndsAtMost {D : Type 0} (notes : List TillNote) (mid : MachineView) (between : D) (heard : Output) (after : MachineView) (new : D) (end : Output) (status : Status) : Type 0 where
  pub most : length notes ≡ MOST_ROUNDS
  pub machine : after ≡ mid
  pub around : new ≡ between
  pub output : end ≡ heard
  pub good : status ≡ Good

-- Receipts are recorded, or found cancelled, and a line is printed for each; then a last line says why no further one is sent, or none
-- waits any more.
pub record DeliversAndTells {D : Type 0} (did : D → Deed → D → Type 0) (delivery : Delivery) (m : MachineView) (old : D) (before : Output) (after : MachineView) (new : D) (end : Output) (status : Status) : Type 0 where
  pub notes : List TillNote
  pub mid : MachineView
  pub between : D
  pub heard : Output
  pub rounds : Rounds did delivery m old before notes mid between heard
  pub ends : EndsAtMost notes mid between heard after new end status ⊎ RoundEnds did delivery mid between heard after new end status
