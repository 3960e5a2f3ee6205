-- What a world shows of what surrounds a driver's machine, whatever happens at the printer's end.
use Rattle.std.proofs.Common.{ℕ, ◌≡◌, ◌≢◌, inl, inr, Option, Some, None, List, [], ◌∷◌, ◌++◌, refl, sym, ◌∙◌, ap, subst}
use Rattle.escpos_host.specs.Machine.{HostView, Down, IsSound}
use Rattle.escpos_link.specs.declared.event.Event.{Event}
use Rattle.escpos_link.specs.Wire.{WireView, given_up, with_link}
use Rattle.escpos_till.specs.declared.entry.Entry.{Entry}
use Rattle.escpos_till.specs.declared.stage.Stage.{Stage}
use Rattle.escpos_till.specs.declared.stage.Stage.TheVariants as stage
use Rattle.escpos_till.specs.declared.stage.Then.TheVariants as then
use Rattle.escpos_till.specs.declared.note.TillNote.{TillNote}
use Rattle.escpos_till.specs.Machine.{Drops, MachineView, told}
use Rattle.escpos_till_model.specs.Around.{Around, GoesOnBy, around}
use Rattle.escpos_till_model.specs.declared.event.Happening.{Happening}
use Rattle.escpos_till_model.specs.declared.event.Happening.TheVariants.{Idle, OnWire}
use Rattle.escpos_till_model.specs.World.{Happens, Moves, Runs, Wired, World, running, with_wire}
use Rattle.escpos_till_model.proofs.LinesKept.{down_or_up}
use Rattle.escpos_till_model.proofs.WireEvents.{goes_on_given_up, goes_on_more, goes_on_with_more, with_more}

-- ## What a world and what surrounds a machine have in common

-- The wires, by where the machine stands. While a try is to be kept, a link is there already on which the world's host isn't yet. After an
-- event that records, bytes that came with it are dropped, which in the world are still on their way; there are none where the next receipt
-- goes over the same link. Once the host is off its link, that is
-- given up in the world, and not yet by the driver.
abbrev pub ShowsWire : Stage → HostView → WireView → WireView → Type 0
ShowsWire (stage.Keeping e (then.Send due)) h w near = (h.phase ≡ Down) × ((events : List Event) × GoesOnBy (with_link w) events near)
ShowsWire (stage.Keeping e (then.Recorded number)) h w near = (h.phase ≢ Down) × ((dropped : List ℕ) × (w ≡ with_more dropped near))
ShowsWire (stage.Keeping e (then.GoOn number tried due)) h w near = (h.phase ≢ Down) × (w ≡ near)
ShowsWire (stage.Keeping e (then.SendNext number due)) h w near = (h.phase ≢ Down) × (w ≡ near)
ShowsWire (stage.Talking talk) h w near = (h.phase ≢ Down) × (w ≡ near)
ShowsWire (stage.HangingUp note) h w near = (h.phase ≡ Down) × (w ≡ given_up near)
ShowsWire s h w near = (h.phase ≡ Down) × (w ≡ near)

pub record Shows (m : MachineView) (a : Around) (w : World) : Type 0 where
  pub machine : w.machine ≡ Some m
  pub kept : w.kept ≡ a.kept
  pub told : w.told ≡ a.told
  pub wire : ShowsWire m.stage m.host w.wire a.wire

-- From this world some happenings lead to one that shows this.
pub record Leads (w : World) (m : MachineView) (a : Around) : Type 0 where
  pub happenings : List Happening
  pub now : World
  pub runs : Runs w happenings now
  pub shows : Shows m a now

-- ## Runs of the world

pub runs_more : (es fs : List Happening) (w mid new : World) → Runs w es mid → Runs mid fs new → Runs w (es ++ fs) new
runs_more [] fs w mid new same more = subst (λ v. Runs v fs new) same more
runs_more (e ∷ es) fs w mid new (one, happened, rest) more = (one, happened, runs_more es fs one mid new rest more)

pub leads_on : (w mid : World) (m : MachineView) (a : Around) (es : List Happening) → Runs w es mid → Leads mid m a → Leads w m a
leads_on w mid m a es runs leads =
    record { happenings = es ++ leads.happenings; now = leads.now; runs = runs_more es leads.happenings w mid leads.now runs leads.runs; shows = leads.shows }

pub one : (w new : World) (e : Happening) → Happens w e new → Runs w (e ∷ []) new
one w new e happened = (new, happened, refl)

-- What happens at the printer's end.
abbrev pub events_of : List Event → List Happening
events_of [] = []
events_of (e ∷ es) = OnWire e ∷ events_of es

pub runs_events : (es : List Event) (w : World) (after : WireView) → GoesOnBy w.wire es after → Runs w (events_of es) (with_wire w after)
runs_events [] w after same = ap (with_wire w) same
runs_events (e ∷ es) w after (mid, effect, is, happened, more) =
    (with_wire w mid, record { at_printer = is; wire = mid; effect = effect; happened = happened; is = refl }, runs_events es (with_wire w mid) after more)

-- ## The wire, as a host goes up or down

pub wired_down : (h h' : HostView) (w : WireView) → h.phase ≡ Down → h'.phase ≡ Down → Wired h h' w w
wired_down h h' w down down' = record {
  stays_down = λ d d'. refl;
  goes_up = λ d up. absurd (up down');
  stays_up = λ up up'. refl;
  goes_down = λ up d'. absurd (up down);
}

pub wired_up : (h h' : HostView) (w : WireView) → h.phase ≡ Down → h'.phase ≢ Down → Wired h h' w (with_link w)
wired_up h h' w down up' = record {
  stays_down = λ d d'. absurd (up' d');
  goes_up = λ d up. refl;
  stays_up = λ up u'. absurd (up down);
  goes_down = λ up d'. absurd (up down);
}

pub wired_on : (h h' : HostView) (w : WireView) → h.phase ≢ Down → h'.phase ≢ Down → Wired h h' w w
wired_on h h' w up up' = record {
  stays_down = λ d d'. refl;
  goes_up = λ d u'. absurd (up d);
  stays_up = λ u u'. refl;
  goes_down = λ u d'. absurd (up' d');
}

pub wired_off : (h h' : HostView) (w : WireView) → h.phase ≢ Down → h'.phase ≡ Down → Wired h h' w (given_up w)
wired_off h h' w up down' = record {
  stays_down = λ d d'. absurd (up d);
  goes_up = λ d u'. absurd (up d);
  stays_up = λ u u'. absurd (u' down');
  goes_down = λ u d'. refl;
}

-- The machine goes on, and the wire with it.
pub move : (Goes : MachineView → MachineView → Type 0) (w : World) (m after : MachineView) (kept : List Entry) (notes : List TillNote) (wire : WireView) → w.machine ≡ Some m → Goes m after
    → IsSound after.host → Wired m.host after.host w.wire wire → Moves Goes w kept notes (running after kept wire notes)
move Goes w m after kept notes wire was goes sound wired =
    record { m = m; after = after; wire = wire; was = was; goes = goes; sound = sound; wired = wired; is = refl }

-- One happening.
pub arrive : (w now : World) (e : Happening) (m : MachineView) (a : Around) → Happens w e now → Shows m a now → Leads w m a
arrive w now e m a happened shows = record { happenings = e ∷ []; now = now; runs = one w now e happened; shows = shows }

-- What a machine at this stage has in common with the world.
pub shows_at : (s : Stage) (m : MachineView) (a : Around) (w : World) → w.machine ≡ Some m → w.kept ≡ a.kept → w.told ≡ a.told → m.stage ≡ s → ShowsWire s m.host w.wire a.wire → Shows m a w
shows_at s m a w was kept told is wire = record { machine = was; kept = kept; told = told; wire = subst (λ k. ShowsWire k m.host w.wire a.wire) (sym is) wire }

-- ## What happens at the printer's end before a deed

later_with : (m : MachineView) (a : Around) (w : World) (es : List Event) (after there : WireView) (s : Stage) → m.stage ≡ s → Shows m a w → GoesOnBy w.wire es there → ShowsWire s m.host there after
    → Leads w m (around a.kept after a.told)
later_with m a w es after there s is shows goes shown = record {
  happenings = events_of es;
  now = with_wire w there;
  runs = runs_events es w there goes;
  shows = shows_at s m (around a.kept after a.told) (with_wire w there) shows.machine shows.kept shows.told is shown;
}

later_same : (m : MachineView) (a : Around) (w : World) (es : List Event) (after : WireView) → w.wire ≡ a.wire → GoesOnBy a.wire es after → GoesOnBy w.wire es after
later_same m a w es after same goes = subst (λ v. GoesOnBy v es after) (sym same) goes

pub later : (s : Stage) (m : MachineView) (a : Around) (w : World) (es : List Event) (after : WireView) → m.stage ≡ s → Shows m a w → ShowsWire s m.host w.wire a.wire → GoesOnBy a.wire es after
    → Leads w m (around a.kept after a.told)
later (stage.Keeping e (then.Send due)) m a w es after is shows (down, (events, before)) goes = record {
  happenings = [];
  now = w;
  runs = refl;
  shows = shows_at (stage.Keeping e (then.Send due)) m (around a.kept after a.told) w shows.machine shows.kept shows.told is
      (down, (events ++ es, goes_on_more events es (with_link w.wire) a.wire after before goes));
}
later (stage.Keeping e (then.Recorded number)) m a w es after is shows (up, (dropped, same)) goes =
    later_with m a w es after (with_more dropped after) (stage.Keeping e (then.Recorded number)) is shows
    (subst (λ v. GoesOnBy v es (with_more dropped after)) (sym same) (goes_on_with_more es dropped a.wire after goes)) (up, (dropped, refl))
later (stage.HangingUp note) m a w es after is shows (down, same) goes =
    later_with m a w es after (given_up after) (stage.HangingUp note) is shows (subst (λ v. GoesOnBy v es (given_up after)) (sym same) (goes_on_given_up es a.wire after goes)) (down, refl)
later (stage.Keeping e (then.GoOn number tried due)) m a w es after is shows (up, same) goes =
    later_with m a w es after after (stage.Keeping e (then.GoOn number tried due)) is shows (later_same m a w es after same goes) (up, refl)
later (stage.Keeping e (then.SendNext number due)) m a w es after is shows (up, same) goes =
    later_with m a w es after after (stage.Keeping e (then.SendNext number due)) is shows (later_same m a w es after same goes) (up, refl)
later (stage.Talking talk) m a w es after is shows (up, same) goes = later_with m a w es after after (stage.Talking talk) is shows (later_same m a w es after same goes) (up, refl)
later stage.AtRest m a w es after is shows (down, same) goes = later_with m a w es after after stage.AtRest is shows (later_same m a w es after same goes) (down, refl)
later (stage.Connecting due) m a w es after is shows (down, same) goes = later_with m a w es after after (stage.Connecting due) is shows (later_same m a w es after same goes) (down, refl)
later (stage.Keeping e then.Queued) m a w es after is shows (down, same) goes =
    later_with m a w es after after (stage.Keeping e then.Queued) is shows (later_same m a w es after same goes) (down, refl)
later (stage.Keeping e (then.Take content)) m a w es after is shows (down, same) goes =
    later_with m a w es after after (stage.Keeping e (then.Take content)) is shows (later_same m a w es after same goes) (down, refl)
later (stage.Keeping e then.Raised) m a w es after is shows (down, same) goes =
    later_with m a w es after after (stage.Keeping e then.Raised) is shows (later_same m a w es after same goes) (down, refl)
later (stage.Keeping e (then.Cancelled number tried)) m a w es after is shows (down, same) goes =
    later_with m a w es after after (stage.Keeping e (then.Cancelled number tried)) is shows (later_same m a w es after same goes) (down, refl)
later (stage.Telling note) m a w es after is shows (down, same) goes = later_with m a w es after after (stage.Telling note) is shows (later_same m a w es after same goes) (down, refl)
later stage.Failed m a w es after is shows (down, same) goes = later_with m a w es after after stage.Failed is shows (later_same m a w es after same goes) (down, refl)

-- ## A host that is off its link

pub gone : (h h' : HostView) → Drops h h' → h'.phase ≡ Down
gone h h' drops = elim (down_or_up h.phase) [
  | inl down ↦ ap (λ v. v.phase) (drops.0 down) ∙ down
  | inr up ↦ ap (λ v. v.phase) (drops.1 up)
]

abbrev pub DownIn : Option MachineView → Type 0
DownIn None = Unit {0}
DownIn (Some k) = k.host.phase ≡ Down

-- A link that was opened by the driver, on which the machine's host never was: in the world it is opened and given up, and what happened
-- at the printer's end meanwhile happens then.
pub idle_shown : (w : World) (m : MachineView) (a : Around) (events : List Event) (note : TillNote) → w.machine ≡ Some m → w.kept ≡ a.kept → w.told ≡ a.told → m.stage ≡ stage.HangingUp note
    → m.host.phase ≡ Down → GoesOnBy (with_link w.wire) events a.wire → Leads w m a
idle_shown w m a events note was kept told is down goes = record {
  happenings = Idle ∷ events_of events;
  now = with_wire w (given_up a.wire);
  runs = (
    with_wire w (given_up (with_link w.wire)),
    record { none = λ k here. subst DownIn (sym was ∙ here) down; is = refl },
    runs_events events (with_wire w (given_up (with_link w.wire))) (given_up a.wire) (goes_on_given_up events (with_link w.wire) a.wire goes),
  );
  shows = shows_at (stage.HangingUp note) m a (with_wire w (given_up a.wire)) was kept told is (down, refl);
}
