-- What a driver did on a store and over a line, as the world has it: when the store did what it was asked to, when a wire did what was done
-- over the line, and what the till's owner was told.
use Rattle.std.specs.Prelude.{ℕ, ◌≡◌, List, [], ◌∷◌, ◌++◌, map}
use Rattle.escpos_link.specs.Wire.{WireView}
use Rattle.escpos_till.specs.declared.entry.Entry.{Entry}
use Rattle.escpos_till.specs.declared.stage.Stage.TheVariants as stage
use Rattle.escpos_till.specs.declared.note.TillNote.{TillNote}
use Rattle.escpos_till.specs.declared.surroundings.Surroundings.{Surroundings}
use Rattle.escpos_till.specs.declared.store.StoreFault.{StoreFault}
use Rattle.escpos_till.specs.Driver.{Answered, Call, Confirms, Deed, Deliver, GivesUp, Keeps, Learns, Loses, Pauses, Serves, ServesAll, Tells}
use Rattle.escpos_till.specs.Machine.{MachineView, after_note}
use Rattle.escpos_till.specs.Surroundings.{Did}
use Rattle.escpos_till_model.specs.Around.{Around, CrashesTo, DoesInTime, IsAround, around}
use Rattle.escpos_till_model.specs.declared.event.Happening.{Happening}
use Rattle.escpos_till.specs.Further.{IsText}
use Rattle.escpos_till_model.specs.World.{Begins, HasCome, Runs, World}

-- ## The store

-- A store that held these entries at first has done what it was asked to since.
pub record IsFaithful {S : Type 0} (faithful : S → Type 0) (holds : S → List Entry → Type 0) (old : S) (kept : List Entry) (new : S) : Type 0 where
  pub done : faithful new
  pub held : holds old kept

-- ## The line

-- A deed of the line's: neither the store's nor the owner's.
abbrev pub IsOnLine : Deed → Type 0
IsOnLine (Keeps e and_then) = ⊥
IsOnLine (Loses e and_then why) = ⊥
IsOnLine (Confirms number) = ⊥
IsOnLine (Learns others) = ⊥
IsOnLine (Pauses number why) = ⊥
IsOnLine (Tells note) = ⊥
IsOnLine d = Unit {0}

-- A wire does this, perhaps after something at the printer's end: whatever was kept and told stays so.
abbrev pub OnWire : WireView → Deed → WireView → Type 0
OnWire w d after = (kept : List Entry) (told : List TillNote) → DoesInTime (around kept w told) d (around kept after told)

-- A wire does all of these that are the line's, one after another.
abbrev pub AllOnWire : WireView → List Deed → WireView → Type 0
AllOnWire w [] after = after ≡ w
AllOnWire w (Keeps e and_then ∷ ds) after = AllOnWire w ds after
AllOnWire w (Loses e and_then why ∷ ds) after = AllOnWire w ds after
AllOnWire w (Confirms number ∷ ds) after = AllOnWire w ds after
AllOnWire w (Learns others ∷ ds) after = AllOnWire w ds after
AllOnWire w (Pauses number why ∷ ds) after = AllOnWire w ds after
AllOnWire w (Tells note ∷ ds) after = AllOnWire w ds after
AllOnWire w (d ∷ ds) after = (mid : WireView) × OnWire w d mid × AllOnWire mid ds after

-- The premise on a line: whatever it did, a wire that it was like before does, and it is like the wire that comes of that.
abbrev pub FitsWire : {L : Type 0} → (L → Deed → L → Type 0) → (L → WireView → Type 0) → Type 0
FitsWire {L} did fits = (old new : L) (d : Deed) (w : WireView) → IsOnLine d → did old d new → fits old w → (after : WireView) × OnWire w d after × fits new after

-- ## The owner

-- What the owner is told by these deeds of what came of calls, the oldest first.
abbrev pub notes_of : List Deed → List TillNote
notes_of [] = []
notes_of (Tells note ∷ ds) = note ∷ notes_of ds
notes_of (d ∷ ds) = notes_of ds

-- ## A call that is served

-- The text for a copy, if the call has one, is such a text.
abbrev pub MayCall : Call → Type 0
MayCall (Deliver openings most copy further) = IsText copy
MayCall call = Unit {0}

-- The call has an entry kept, and no more: nothing is done over the line for it.
abbrev pub IsOffLine : Call → Type 0
IsOffLine (Deliver openings most copy further) = ⊥
IsOffLine call = Unit {0}

-- A driver has served a call of a till that is in this world, until its owner was told this note: over a line whose deeds a wire did, with a
-- store that had the world's entries and has done what it was asked to. The wire is this one then.
pub record IsServed {S L : Type 0} (faithful : S → Type 0) (holds leaves : S → List Entry → Type 0) (says : S → List Entry → StoreFault → S → Type 0) (did : L → Deed → L → Type 0) (world : World) (m : MachineView) (old : Surroundings S L) (call : Call)
    (note : TillNote) (most : ℕ) (after : MachineView) (new : Surroundings S L) (wire : WireView) : Type 0 where
  pub come : HasCome world
  pub is : IsAround m (around world.kept world.wire world.told) world
  pub serves : Serves (Did faithful holds leaves says did) m old call note most after new
  pub may : MayCall call
  pub store : IsFaithful faithful holds old.store world.kept new.store
  pub line : AllOnWire world.wire (serves.runs.before ++ Tells note ∷ []) wire

-- The same, where its owner wasn't told anything within so many deeds.
pub record IsGivenUp {S L : Type 0} (faithful : S → Type 0) (holds leaves : S → List Entry → Type 0) (says : S → List Entry → StoreFault → S → Type 0) (did : L → Deed → L → Type 0) (world : World) (m : MachineView) (old : Surroundings S L) (call : Call)
    (most : ℕ) (after : MachineView) (new : Surroundings S L) (wire : WireView) : Type 0 where
  pub come : HasCome world
  pub is : IsAround m (around world.kept world.wire world.told) world
  pub gives : GivesUp (Did faithful holds leaves says did) m old call most after new
  pub may : MayCall call
  pub store : IsFaithful faithful holds old.store world.kept new.store
  pub line : AllOnWire world.wire gives.runs.run.deeds wire

-- ## A row of calls

-- Each of these calls may be made, and the machine is at rest after what its owner was told of it.
abbrev pub AreMade : List Answered → Type 0
AreMade [] = Unit {0}
AreMade (a ∷ more) = MayCall a.call × (after_note a.note ≡ stage.AtRest) × AreMade more

-- What the owner was told of these calls, the oldest first.
abbrev pub told_of : List Answered → List TillNote
told_of answered = map (λ a. a.note) answered

-- A driver has served these calls of a till that is in this world, one after another: over a line that stays like a wire, and was like the
-- world's at first, with a store that had the world's entries and has done what it was asked to.
pub record AreServed {S L : Type 0} (faithful : S → Type 0) (holds leaves : S → List Entry → Type 0) (says : S → List Entry → StoreFault → S → Type 0) (did : L → Deed → L → Type 0) (fits : L → WireView → Type 0) (world : World) (m : MachineView)
    (old : Surroundings S L) (answered : List Answered) (most : ℕ) (after : MachineView) (new : Surroundings S L) : Type 0 where
  pub come : HasCome world
  pub is : IsAround m (around world.kept world.wire world.told) world
  pub serves : ServesAll (Did faithful holds leaves says did) most m old answered after new
  pub made : AreMade answered
  pub store : IsFaithful faithful holds old.store world.kept new.store
  pub stays : FitsWire did fits
  pub like : fits old.line world.wire

-- ## In the world

-- Happenings lead from this world to one that is around this machine.
pub record GoesTo (world : World) (m : MachineView) (a : Around) : Type 0 where
  pub happenings : List Happening
  pub now : World
  pub runs : Runs world happenings now
  pub come : HasCome now
  pub is : IsAround m a now

-- The till is switched off there, whatever it was doing: happenings lead from this world to one that may begin again.
pub record EndsIn (world : World) (m : MachineView) (a : Around) : Type 0 where
  pub crashes : CrashesTo world m a
  pub begins : Begins crashes.now
