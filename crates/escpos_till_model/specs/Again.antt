-- When a receipt isn't sent again: once an answer to the closing mark of one of its tries was heard.
use Rattle.std.specs.Prelude.{ℕ, ◌≡◌, List, [], ◌∷◌, ◌++◌, ◌-◌, take}
use Rattle.escpos_host.specs.declared.host.HostEvent.{HostEvent}
use Rattle.escpos_host.specs.declared.host.HostEvent.TheVariants as heard
use Rattle.escpos_host.specs.Machine.{HostView}
use Rattle.escpos_till.specs.declared.entry.Entry.{Entry}
use Rattle.escpos_till.specs.declared.entry.Entry.TheVariants as entry
use Rattle.escpos_till.specs.declared.stage.Talk.{Talk}
use Rattle.escpos_till.specs.Entries.{Waits}
use Rattle.escpos_till.specs.Entries.{heard as heard_in}
use Rattle.escpos_till.specs.Machine.{HearsOne, Turns}
use Rattle.escpos_till.specs.Tries.{ClosesTry, tries}
use Rattle.escpos_till_model.specs.declared.event.Happening.{Happening}
use Rattle.escpos_till_model.specs.declared.event.Happening.TheVariants as event
use Rattle.escpos_till_model.specs.Receipts.{Among}
use Rattle.escpos_till_model.specs.World.{Hears, World}

-- This answers a closing mark of the receipt with this number: that of the try that is being made; or that of an earlier one of a receipt that
-- waits, on whatever link it comes: a mark of which the host knows then that it is answered, and the entries didn't say so.
abbrev pub IsAnswerTo : List Entry → Talk → HostEvent → HostView → ℕ → Type 0
IsAnswerTo kept talk (heard.Recorded place) host number = talk.number ≡ number
IsAnswerTo kept talk (heard.Late id) host number = Waits kept number × ClosesTry (tries kept) (heard_in kept) host.heard number id
IsAnswerTo kept talk e host number = ⊥

-- The machine hears such an answer.
pub record HearsAnswer (w : World) (most number : ℕ) (new : World) : Type 0 where
  pub hears : Hears w most new
  pub event : HostEvent
  pub host : HostView
  pub one : HearsOne hears.m.host (take most w.wire.coming) hears.consumed event host
  pub turns : Turns hears.m.book event hears.talk (hears.talk.left - hears.consumed) host hears.after.host hears.after.stage
  pub is : IsAnswerTo w.kept hears.talk event host number

-- Before anything else is kept the machine is gone, or its store fails: so is what the machine has heard.
abbrev pub IsLostFirst : List Happening → Type 0
IsLostFirst [] = ⊥
IsLostFirst (event.Keep ∷ es) = ⊥
IsLostFirst (event.Crash ∷ es) = Unit {0}
IsLostFirst (event.FailWith why ∷ es) = Unit {0}
IsLostFirst (event.FailWithout why ∷ es) = Unit {0}
IsLostFirst (event.FailWithBoth why ∷ es) = Unit {0}
IsLostFirst (event.FailLearning others why ∷ es) = Unit {0}
IsLostFirst (e ∷ es) = IsLostFirst es

-- No entry after those says that the receipt is tried.
pub record IsNotTriedAgain (number : ℕ) (kept after : List Entry) : Type 0 where
  pub following : List Entry
  pub are : after ≡ kept ++ following
  pub none : (next : ℕ) → ¬ Among (entry.Tried number next) following
