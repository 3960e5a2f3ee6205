-- Why something doesn't happen, and what is left then.
use Rattle.std.specs.Prelude.{ℕ, false, ◌≡◌, ◌≢◌, ◌⊎◌, ◌<◌, Some, None, List, [], ◌∷◌}
use Rattle.escpos_host.specs.Machine.{Down}
use Rattle.escpos_host.specs.declared.send.SendFault.{SendFault}
use Rattle.escpos_host.specs.declared.send.SendFault.TheVariants as fault
use Rattle.escpos_link.specs.declared.event.Event.TheVariants as line
use Rattle.escpos_till.specs.declared.entry.Entry.{Entry}
use Rattle.escpos_till.specs.declared.stage.Stage.{Stage}
use Rattle.escpos_till.specs.declared.stage.Stage.TheVariants as stage
use Rattle.escpos_till.specs.declared.stage.Talk.{Talk}
use Rattle.escpos_till.specs.declared.stage.Then.{Then}
use Rattle.escpos_till.specs.declared.note.TillNote.{TillNote}
use Rattle.escpos_till.specs.Machine.{MachineView, entry_with, news_of}
use Rattle.escpos_till_model.specs.declared.event.Happening.{Happening}
use Rattle.escpos_till_model.specs.declared.event.Happening.TheVariants as event
use Rattle.escpos_till_model.specs.declared.event.NotPossible.{NotPossible}
use Rattle.escpos_till_model.specs.declared.event.NotPossible.TheVariants as why
use Rattle.escpos_till.specs.Further.{IsText}
use Rattle.escpos_till_model.specs.World.{Happens, Runs, World, is_printer_event}

-- The machine asks for an entry to be kept, or two together, for bytes to be put or answers to be heard, or for its owner to be told.
abbrev pub KeepsEntry : Stage → Type 0
KeepsEntry s = (e : Entry) × (next : Then) × (s ≡ stage.Keeping e next)

abbrev pub KeepsBoth : Stage → Type 0
KeepsBoth s = (e : Entry) × (next : Then) × (f : Entry) × (s ≡ stage.Keeping e next) × (entry_with next ≡ Some f)

abbrev pub Talks : Stage → Type 0
Talks s = (talk : Talk) × (s ≡ stage.Talking talk)

abbrev pub HasNote : Stage → Type 0
HasNote s = (n : TillNote) × (s ≡ stage.Telling n)

abbrev pub HasNews : Stage → Type 0
HasNews s = (talk : Talk) × (n : TillNote) × (s ≡ stage.Talking talk) × (news_of talk ≡ Some n)

-- The machine asks for it at this stage, if it is something that it asks for.
abbrev pub IsFor : Happening → Stage → Type 0
IsFor event.Keep s = KeepsEntry s
IsFor (event.FailWith cause) s = KeepsEntry s
IsFor (event.FailWithout cause) s = KeepsEntry s
IsFor (event.FailWithBoth cause) s = KeepsBoth s
IsFor (event.Learn others) s = KeepsEntry s
IsFor (event.FailLearning others cause) s = KeepsEntry s
IsFor (event.Put most) s = Talks s
IsFor (event.Break most fewer cause) s = Talks s
IsFor (event.Hear most) s = Talks s
IsFor event.News s = HasNews s
IsFor event.Tell s = HasNote s
IsFor e s = Unit {0}

-- There must be a machine for it.
abbrev pub NeedsMachine : Happening → Type 0
NeedsMachine event.Start = ⊥
NeedsMachine (event.OnWire e) = ⊥
NeedsMachine event.Idle = ⊥
NeedsMachine event.Crash = ⊥
NeedsMachine e = Unit {0}

abbrev pub IsStart : Happening → Type 0
IsStart event.Start = Unit {0}
IsStart e = ⊥

abbrev pub IsIdle : Happening → Type 0
IsIdle event.Idle = Unit {0}
IsIdle e = ⊥

-- No copy of an entry that is asked for: none is, or out of memory.
abbrev pub IsUnwanted : NotPossible → Stage → Type 0
IsUnwanted why.NotAsked s = ¬ KeepsEntry s
IsUnwanted why.Memory s = Unit {0}
IsUnwanted other s = ⊥

-- Out of memory leaves all as it was. But the printer may have been fed fewer bytes; a link for bytes that can't be put ends; and a host
-- that can't put its opening marks out doesn't use the link that is there for it.
abbrev pub LeftByMemory : Happening → World → World → Type 0
LeftByMemory e w new =
    (new ≡ w)
    ⊎ (((most fewer : ℕ) × (e ≡ event.OnWire (line.Deliver most)) × (fewer < most) × Happens w (event.OnWire (line.Deliver fewer)) new)
    ⊎ (((most : ℕ) × (e ≡ event.Put most) × Happens w (event.Break most 0 fault.WriteFault) new)
    ⊎ (((most fewer : ℕ) × (cause : SendFault) × (e ≡ event.Break most fewer cause) × Happens w (event.Break most 0 cause) new)
    ⊎ ((e ≡ event.Keep) × Runs w (event.Idle ∷ event.Keep ∷ []) new))))

-- It would be a delivery with a text that is none for the line of a copy; it would happen at another end than the printer's.
abbrev pub HasNoCopy : Happening → Type 0
HasNoCopy (event.Deliver openings most copy further) = ¬ IsText copy
HasNoCopy e = ⊥

abbrev pub IsElsewhere : Happening → Type 0
IsElsewhere (event.OnWire e) = is_printer_event e ≡ false
IsElsewhere e = ⊥

-- Others would have added entries.
abbrev pub IsOfOthers : Happening → Type 0
IsOfOthers (event.Learn others) = Unit {0}
IsOfOthers (event.FailLearning others cause) = Unit {0}
IsOfOthers e = ⊥

-- Two entries would have been kept together.
abbrev pub IsOfBoth : Happening → Type 0
IsOfBoth (event.FailWithBoth cause) = Unit {0}
IsOfBoth e = ⊥

abbrev pub Instead : NotPossible → Happening → World → World → Type 0
Instead why.SwitchedOff e w new = NeedsMachine e × (w.machine ≡ None) × (new ≡ w)
Instead why.SwitchedOn e w new = IsStart e × (w.machine ≢ None) × (new ≡ w)
Instead why.Linked e w new = IsIdle e × ((m : MachineView) × (w.machine ≡ Some m) × (m.host.phase ≢ Down)) × (new ≡ w)
Instead why.NotAsked e w new = ((m : MachineView) × (w.machine ≡ Some m) × ¬ IsFor e m.stage) × (new ≡ w)
Instead why.NotCopyText e w new = HasNoCopy e × (new ≡ w)
Instead why.NotAtPrinter e w new = IsElsewhere e × (new ≡ w)
Instead why.Alone e w new = IsOfOthers e × (new ≡ w)
Instead why.OneByOne e w new = IsOfBoth e × (new ≡ w)
Instead (why.Machine cause) e w new = Happens w event.Refuse new
Instead why.Memory e w new = LeftByMemory e w new

-- They came one after another; each of them happened, or didn't.
abbrev pub Ran : World → List Happening → World → Type 0
Ran w [] new = new ≡ w
Ran w (e ∷ es) new = (mid : World) × (Happens w e mid ⊎ ((cause : NotPossible) × Instead cause e w mid)) × Ran mid es new
