-- Events one after another.
use Rattle.std.specs.Prelude.{ℕ, ◌≡◌, ◌≢◌, List, [], ◌∷◌, ◌++◌, take, Some, slice_get}
use Rattle.escpos_link.specs.declared.event.Event.{Event}
use Rattle.escpos_host.specs.declared.host.HostEvent.TheVariants as heard
use Rattle.escpos_link.specs.declared.event.Note.{Note}
use Rattle.escpos_link.specs.declared.event.Note.TheVariants as note
use Rattle.escpos_link.specs.declared.event.Refusal.{Refusal}
use Rattle.escpos_link.specs.declared.event.Refusal.TheVariants as refusal
use Rattle.escpos_link.specs.declared.sim.RunStop.{RunStop}
use Rattle.escpos_link.specs.EventTable.{After, IsRefused, Leaves, Refuses}
use Rattle.escpos_link.specs.Line.{LineView}

-- The effect of an event isn't a byte that fits no answer, which would end the host's link.
abbrev pub IsInTurn : Note → Type 0
IsInTurn told = (consumed at : ℕ) → told ≢ note.Heard consumed (heard.BadAnswer at)

-- The event happened to the line, and its effect is in turn.
abbrev pub Happens : Event → LineView → Note → LineView → Type 0
Happens e l told after = After e l told after × IsInTurn told

-- The events happened to the line, in order, and none was refused.
abbrev pub Happened : LineView → List Event → LineView → Type 0
Happened l [] after = after ≡ l
Happened l (e ∷ es) after = (n : Note) × (next : LineView) × Happens e l n next × Happened next es after

-- This many of the events happened, the first ones, and the next one was refused.
pub record IsStopped (l : LineView) (events : List Event) (stop : RunStop) (after : LineView) : Type 0 where
  pub event : Event
  pub before : LineView
  pub next : slice_get events stop.done ≡ Some event
  pub happened : Happened l (take stop.done events) before
  pub refused : IsRefused event before stop.refused after

-- Some of the events happened, and the next one was refused because an allocation failed, the only possible reason; this is
-- what is left.
pub record StopsIn (events : List Event) (l : LineView) (after : LineView) : Type 0 where
  pub done : List Event
  pub event : Event
  pub others : List Event
  pub before : LineView
  pub split : events ≡ done ++ (event ∷ others)
  pub happened : Happened l done before
  pub refused : Refuses event before refusal.Memory
  pub memory : (why : Refusal) → Refuses event before why → why ≡ refusal.Memory
  pub leaves : Leaves event before after
