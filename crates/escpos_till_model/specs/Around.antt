-- What surrounds a till's machine, as its driver meets it: what its store has, the wire to its printer, and what its owner was told.
--
-- Here a link is opened where the driver opens it, and given up where the driver does that: before the machine's host is on it, and after
-- it is off again. Between two deeds, and before the first, anything may happen at the printer's end.
use Rattle.std.specs.Prelude.{ℕ, true, ◌≡◌, ◌≤◌, ◌⊎◌, List, [], ◌∷◌, ◌++◌, length, take, None, Some}
use Rattle.escpos_host.specs.Machine.{Down}
use Rattle.escpos_link.specs.declared.event.Event.{Event}
use Rattle.escpos_link.specs.declared.event.Note.{Note}
use Rattle.escpos_link.specs.Wire.{AfterOnWire, WireView, given_up, heard_from, with_bytes, with_link}
use Rattle.escpos_till.specs.declared.entry.Entry.{Entry}
use Rattle.escpos_till.specs.declared.stage.Stage.{Stage}
use Rattle.escpos_till.specs.declared.stage.Stage.TheVariants as stage
use Rattle.escpos_till.specs.declared.stage.Then.TheVariants as then
use Rattle.escpos_till.specs.declared.note.TillNote.{TillNote}
use Rattle.escpos_till.specs.Driver.{Breaks, Confirms, Deed, Ends, Gives, HangsUp, Keeps, Learns, Links, Loses, Misses, Pauses, Puts, Tells}
use Rattle.escpos_till.specs.Appending.{added}
use Rattle.escpos_till.specs.Learning.{AreOthers}
use Rattle.escpos_till.specs.Machine.{MachineView}
use Rattle.escpos_till_model.specs.World.{Runs, World, is_printer_event}
use Rattle.escpos_till_model.specs.declared.event.Happening.{Happening}

pub record Around : Type 0 where
  pub kept : List Entry
  pub wire : WireView
  pub told : List TillNote

abbrev pub around : List Entry → WireView → List TillNote → Around
around kept wire told = record { kept = kept; wire = wire; told = told }

-- These happened at the printer's end, one after another.
abbrev pub GoesOnBy : WireView → List Event → WireView → Type 0
GoesOnBy w [] after = after ≡ w
GoesOnBy w (e ∷ es) after = (mid : WireView) × (effect : Note) × (is_printer_event e ≡ true) × AfterOnWire e w effect mid × GoesOnBy mid es after

-- What each deed does, on a wire that neither changes bytes nor loses any in the middle, and with a store that keeps what it has kept. A link
-- that is missed may have been there for the printer. Where the till is switched off within an append or a put, that is `Loses` or `Breaks`.
abbrev pub Does : Around → Deed → Around → Type 0
Does a (Keeps e and_then) new = new ≡ around (a.kept ++ added e and_then) a.wire a.told
Does a (Loses e and_then why) new = (new ≡ a) ⊎ (new ≡ around (a.kept ++ added e and_then) a.wire a.told)
Does a (Learns others) new = AreOthers a.kept others × (new ≡ around (a.kept ++ others) a.wire a.told)
Does a Links new = new ≡ around a.kept (with_link a.wire) a.told
Does a Misses new = (new ≡ a) ⊎ (new ≡ around a.kept (given_up (with_link a.wire)) a.told)
Does a (Puts bytes) new = new ≡ around a.kept (with_bytes a.wire bytes) a.told
Does a (Breaks bytes why) new = (count : ℕ) × (count ≤ length bytes) × (new ≡ around a.kept (with_bytes a.wire (take count bytes)) a.told)
Does a (Gives room bytes) new = (bytes ≡ take (length bytes) a.wire.coming) × (new ≡ around a.kept (heard_from a.wire (length bytes)) a.told)
Does a (Ends why) new = new ≡ a
Does a HangsUp new = new ≡ around a.kept (given_up a.wire) a.told
Does a (Pauses number why) new = new ≡ a
Does a (Confirms number) new = new ≡ a
Does a (Tells note) new = new ≡ around a.kept a.wire (a.told ++ note ∷ [])

-- The same, after what happened at the printer's end.
pub record DoesInTime (a : Around) (d : Deed) (new : Around) : Type 0 where
  pub events : List Event
  pub wire : WireView
  pub goes_on : GoesOnBy a.wire events wire
  pub does : Does (around a.kept wire a.told) d new

-- A machine at this stage is on no link, and none was opened for it.
abbrev pub HasNoLink : Stage → Type 0
HasNoLink stage.AtRest = Unit {0}
HasNoLink (stage.Connecting due) = Unit {0}
HasNoLink (stage.Keeping e then.Queued) = Unit {0}
HasNoLink (stage.Keeping e (then.Take content)) = Unit {0}
HasNoLink (stage.Keeping e then.Raised) = Unit {0}
HasNoLink (stage.Keeping e (then.Cancelled number tried)) = Unit {0}
HasNoLink (stage.Telling note) = Unit {0}
HasNoLink stage.Failed = Unit {0}
HasNoLink s = ⊥

-- A world whose machine is on no link is surrounded by what it has itself.
pub record IsAround (m : MachineView) (a : Around) (w : World) : Type 0 where
  pub machine : w.machine ≡ Some m
  pub surrounds : a ≡ around w.kept w.wire w.told
  pub stage : HasNoLink m.stage
  pub down : m.host.phase ≡ Down

-- Happenings lead from this world to one with the same entries, the same notes and the same printer; where the machine is on no link then, with
-- all that surrounds it.
pub record Reaches (w : World) (m : MachineView) (a : Around) : Type 0 where
  pub happenings : List Happening
  pub now : World
  pub runs : Runs w happenings now
  pub kept : now.kept ≡ a.kept
  pub told : now.told ≡ a.told
  pub printer : now.wire.printer ≡ a.wire.printer
  pub rests : HasNoLink m.stage → IsAround m a now

-- The till is switched off there, whatever it was doing: happenings lead to a world with the same entries and notes, whose wire is that of the
-- driver once its link, if there is one, is given up.
pub record CrashesTo (w : World) (m : MachineView) (a : Around) : Type 0 where
  pub happenings : List Happening
  pub now : World
  pub runs : Runs w happenings now
  pub off : now.machine ≡ None
  pub kept : now.kept ≡ a.kept
  pub told : now.told ≡ a.told
  pub no_link : HasNoLink m.stage → now.wire ≡ a.wire
  pub link : (HasNoLink m.stage → ⊥) → now.wire ≡ given_up a.wire
