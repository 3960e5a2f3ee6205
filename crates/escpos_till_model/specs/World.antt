-- A till in the world, with what can go wrong there: its machine, which may be gone at any moment; a store, which may fail with an
-- entry or without it; and the wire to its printer.
--
-- The machine is the one that a program runs, and its calls do what `escpos_till`'s `Machine` says. What follows from that for the store,
-- for the wire and for the till's owner is said here. The wire has a live link as long as the machine's host is on one: a connection
-- that is opened and closed again with no byte on it is `Idle`, and a link that the host gives up has ended at that moment, though a
-- program may close its socket a little later. A crash within an append is `FailWith`, `FailWithBoth` or `FailWithout`, and then `Crash`.
--
-- Others may add entries to the ledger while this till's machine delivers: receipts that they take, mark numbers that they raise and receipts that
-- they cancel. Here that happens where the machine learns it, just before it keeps an entry.
--
-- Not in this world: other writers to the printer, and bytes from it that nobody asked for; a store that loses an entry that it kept, or
-- that is put back from a backup; two machines that deliver from one ledger at the same time; and an answer that was on its way on an old
-- link and comes on a new one, as it may on a serial line. (An answer that waited in the printer does come on a new link.)
use Rattle.std.specs.Prelude.{ℕ, Bool, true, false, ◌≡◌, ◌≢◌, ◌<◌, ◌≤◌, Option, Some, None, List, [], ◌∷◌, ◌++◌, length, min, take}
use Rattle.escpos_command.specs.declared.command.Command.{Command}
use Rattle.escpos_receipt.specs.Whole.{HoldNoRealTime}
use Rattle.escpos_host.specs.declared.send.SendFault.{SendFault}
use Rattle.escpos_host.specs.Machine.{HostView, Down, IsSound}
use Rattle.escpos_link.specs.declared.event.Event.{Event}
use Rattle.escpos_link.specs.declared.event.Note.{Note}
use Rattle.escpos_link.specs.declared.event.Event.TheVariants as line
use Rattle.escpos_link.specs.Line.{IsLine, LineView}
use Rattle.escpos_link.specs.Trusted.{IsFitting, IsTrusted}
use Rattle.escpos_link.specs.Wire.{AfterOnWire, WireView, given_up, heard_from, wire_of, with_bytes, with_link}
use Rattle.escpos_till.specs.declared.entry.Entry.{Entry}
use Rattle.escpos_till.specs.declared.stage.Stage.{Stage}
use Rattle.escpos_till.specs.declared.stage.Stage.TheVariants as stage
use Rattle.escpos_till.specs.declared.stage.Talk.{Talk}
use Rattle.escpos_till.specs.declared.stage.Then.{Then}
use Rattle.escpos_till.specs.declared.note.TillNote.{TillNote}
use Rattle.escpos_till.specs.declared.note.TillNote.TheVariants as note
use Rattle.escpos_till.specs.Book.{IsBookOf}
use Rattle.escpos_till.specs.Further.{IsText}
use Rattle.escpos_till.specs.Entries.{IsLedger, cancelled, heard, last_number, next_free, recorded, times_tried}
use Rattle.escpos_till.specs.Learning.{AreOthers, FailsToLearn, LearnsAll}
use Rattle.escpos_till.specs.Machine.{Came, Cancels, Delivers, Ended, IsStarted, Kept, MachineView, Queues, Raises, SameEntries, Unsure, connected, entry_with, hung_up, news_of, not_connected, put, told}
use Rattle.escpos_till_model.specs.Late.{IsHeardBy, LateAnswers}
use Rattle.escpos_till_model.specs.Receipts.{Among, AreReceipts}
use Rattle.escpos_till_model.specs.declared.event.Happening.{Happening}
use Rattle.escpos_till_model.specs.declared.event.Happening.TheVariants as event

-- The till's machine, unless it is switched off; the entries that its store has; the wire; and what its owner was told, the oldest first.
pub record World : Type 0 where
  pub machine : Option MachineView
  pub kept : List Entry
  pub wire : WireView
  pub told : List TillNote

abbrev pub running : MachineView → List Entry → WireView → List TillNote → World
running m kept wire notes = record { machine = Some m; kept = kept; wire = wire; told = notes }

abbrev pub off : World → WireView → World
off w wire = record { machine = None; kept = w.kept; wire = wire; told = w.told }

abbrev pub with_wire : World → WireView → World
with_wire w wire = record { machine = w.machine; kept = w.kept; wire = wire; told = w.told }

-- What an owner is told of a receipt is so by these entries: it was taken, here or in an older ledger, or it is recorded, or it is cancelled and was tried so often.
abbrev pub IsSo : List Entry → TillNote → Type 0
IsSo kept (note.Queued number) = (0 < number) × (number ≤ last_number kept)
IsSo kept (note.Recorded number) = Among number (recorded kept)
IsSo kept (note.Cancelled number tried) = Among number (cancelled kept) × (times_tried kept number ≡ tried)
IsSo kept n = Unit {0}

-- A world may begin so: the till is off, and its store has a ledger, an old one or a new one. The wire is what is left of a line once its
-- host has given its link up: whatever printer that is, with links that it still reads. That host's records are the receipts that the
-- ledger has as recorded, and it has used no mark number from the ledger's next one on; what it put for the tries of a receipt that waits
-- proves that it is printed, if it is answered; and no mark can be answered any more of which the ledger says so. What the owner was told before is
-- so.
pub record Begins (w : World) : Type 0 where
  pub off : w.machine ≡ None
  pub ledger : IsLedger w.kept
  pub line : LineView
  pub is_line : IsLine line
  pub trusted : IsTrusted line
  pub receipts : AreReceipts w.kept line.host.records
  pub late : LateAnswers w.kept line.host.records line
  pub next : line.host.next ≤ next_free w.kept
  pub knows : IsHeardBy w.kept line.host
  pub most : heard w.kept ≤ next_free w.kept
  pub wire_is : w.wire ≡ given_up (wire_of line)
  pub told : (n : TillNote) → Among n w.told → IsSo w.kept n

-- The wire after the machine's host has gone from here to there.
pub record Wired (before after : HostView) (w new : WireView) : Type 0 where
  pub stays_down : before.phase ≡ Down → after.phase ≡ Down → new ≡ w
  pub goes_up : before.phase ≡ Down → after.phase ≢ Down → new ≡ with_link w
  pub stays_up : before.phase ≢ Down → after.phase ≢ Down → new ≡ w
  pub goes_down : before.phase ≢ Down → after.phase ≡ Down → new ≡ given_up w

-- The machine, which is there, goes from this to that, and the wire with it. Its store has these entries then, and its owner was told these
-- notes.
pub record Moves (Goes : MachineView → MachineView → Type 0) (w : World) (kept : List Entry) (notes : List TillNote) (new : World) : Type 0 where
  pub m : MachineView
  pub after : MachineView
  pub wire : WireView
  pub was : w.machine ≡ Some m
  pub goes : Goes m after
  pub sound : IsSound after.host
  pub wired : Wired m.host after.host w.wire wire
  pub is : new ≡ running after kept wire notes

-- Nothing is kept or told.
abbrev pub Calls : (MachineView → MachineView → Type 0) → World → World → Type 0
Calls Goes w new = Moves Goes w w.kept w.told new

-- It is to keep an entry, which the store has then, or not.
pub record Stores (Goes : MachineView → MachineView → Type 0) (has : List Entry → Entry → List Entry) (w : World) (new : World) : Type 0 where
  pub entry : Entry
  pub next : Then
  pub moves : Moves (λ m after. (m.stage ≡ stage.Keeping entry next) × Goes m after) w (has w.kept entry) w.told new

abbrev pub with_entry : List Entry → Entry → List Entry
with_entry kept e = kept ++ e ∷ []

abbrev pub without_entry : List Entry → Entry → List Entry
without_entry kept e = kept

-- It is to keep two entries together, and the store fails and has both.
pub record StoresBoth (Goes : MachineView → MachineView → Type 0) (w : World) (new : World) : Type 0 where
  pub entry : Entry
  pub next : Then
  pub second : Entry
  pub with : entry_with next ≡ Some second
  pub moves : Moves (λ m after. (m.stage ≡ stage.Keeping entry next) × Goes m after) w (w.kept ++ entry ∷ second ∷ []) w.told new

-- Others have added these entries before the one that it is to keep, and it learns that.
pub record Learns (Goes : Then → MachineView → MachineView → Type 0) (w : World) (others : List Entry) (new : World) : Type 0 where
  pub entry : Entry
  pub next : Then
  pub added : AreOthers w.kept others
  pub moves : Moves (λ m after. (m.stage ≡ stage.Keeping entry next) × Goes next m after) w (w.kept ++ others) w.told new

-- It has a note for its owner, who is told that.
pub record Tells (w : World) (new : World) : Type 0 where
  pub note : TillNote
  pub moves : Moves (λ m after. (m.stage ≡ stage.Telling note) × (after ≡ told m.stage m)) w w.kept (w.told ++ note ∷ []) new

-- Its owner is told news while a receipt is being sent: that the one before is recorded, or that the printer prints nothing for now. That is no
-- note of what came of a call.
pub record TellsNews (m after : MachineView) : Type 0 where
  pub talk : Talk
  pub note : TillNote
  pub talks : m.stage ≡ stage.Talking talk
  pub news : news_of talk ≡ Some note
  pub told : after ≡ told m.stage m

-- A receipt may be sent, as every one may: it fits the line, and no real-time command stands in its bytes.
pub record IsSendable (receipt : List Command) : Type 0 where
  pub fits : IsFitting (line.Submit receipt)
  pub no_real_time : HoldNoRealTime receipt

-- What is to be sent is such a receipt.
abbrev pub FitsLine : Stage → Type 0
FitsLine (stage.Connecting due) = IsSendable due.receipt
FitsLine s = Unit {0}

-- The machine hears bytes that are on their way.
pub record Hears (w : World) (most : ℕ) (new : World) : Type 0 where
  pub m : MachineView
  pub after : MachineView
  pub consumed : ℕ
  pub wire : WireView
  pub talk : Talk
  pub was : w.machine ≡ Some m
  pub talks : m.stage ≡ stage.Talking talk
  pub came : Came m.stage (take most w.wire.coming) consumed m after
  pub sound : IsSound after.host
  pub wired : Wired m.host after.host (heard_from w.wire consumed) wire
  pub is : new ≡ running after w.kept wire w.told

-- Bytes are taken out, at most so many, and put.
pub record Puts (w : World) (most : ℕ) (new : World) : Type 0 where
  pub m : MachineView
  pub talk : Talk
  pub count : ℕ
  pub was : w.machine ≡ Some m
  pub talks : m.stage ≡ stage.Talking talk
  pub count_is : count ≡ min most (length m.host.out)
  pub sound : IsSound (put m.stage count m).host
  pub is : new ≡ running (put m.stage count m) w.kept (with_bytes w.wire (take count m.host.out)) w.told

-- Bytes are taken out, at most so many, and no more than this many of them are put: the link has ended.
pub record Breaks (w : World) (most fewer : ℕ) (why : SendFault) (new : World) : Type 0 where
  pub m : MachineView
  pub after : MachineView
  pub talk : Talk
  pub taken : ℕ
  pub count : ℕ
  pub was : w.machine ≡ Some m
  pub talks : m.stage ≡ stage.Talking talk
  pub taken_is : taken ≡ min most (length m.host.out)
  pub count_is : count ≡ min fewer taken
  pub ended : Ended m.stage why (put m.stage taken m) after
  pub sound : IsSound after.host
  pub is : new ≡ running after w.kept (given_up (with_bytes w.wire (take count m.host.out))) w.told

pub record Starts (w : World) (new : World) : Type 0 where
  pub m : MachineView
  pub off : w.machine ≡ None
  pub started : IsStarted m
  pub book : IsBookOf m.book w.kept
  pub sound : IsSound m.host
  pub is : new ≡ running m w.kept w.wire w.told

-- What may happen at the printer's end of a wire.
abbrev pub is_printer_event : Event → Bool
is_printer_event (line.Deliver most) = true
is_printer_event line.HandOver = true
is_printer_event line.PrinterLeaves = true
is_printer_event line.PrinterRestart = true
is_printer_event (line.SetCondition condition) = true
is_printer_event e = false

pub record GoesOnWire (e : Event) (w : World) (new : World) : Type 0 where
  pub at_printer : is_printer_event e ≡ true
  pub wire : WireView
  pub effect : Note
  pub happened : AfterOnWire e w.wire effect wire
  pub is : new ≡ with_wire w wire

-- There is no link at that moment.
pub record Idles (w : World) (new : World) : Type 0 where
  pub none : (m : MachineView) → w.machine ≡ Some m → m.host.phase ≡ Down
  pub is : new ≡ with_wire w (given_up (with_link w.wire))

-- The host, if there is one, is gone.
pub record Crashes (w : World) (new : World) : Type 0 where
  pub wire : WireView
  pub no_link : ((m : MachineView) → w.machine ≡ Some m → m.host.phase ≡ Down) → wire ≡ w.wire
  pub link : (m : MachineView) → w.machine ≡ Some m → m.host.phase ≢ Down → wire ≡ given_up w.wire
  pub is : new ≡ off w wire

abbrev pub Happens : World → Happening → World → Type 0
Happens w event.Start new = Starts w new
Happens w (event.Queue content key) new = Calls (λ m after. Queues m content key after) w new
Happens w (event.Raise first) new = Calls (λ m after. Raises m first after) w new
Happens w (event.Cancel number) new = Calls (λ m after. Cancels m number after) w new
Happens w (event.Deliver openings most copy further) new = IsText copy × Calls (λ m after. Delivers m openings most copy further after × FitsLine after.stage) w new
Happens w event.Refuse new = Calls SameEntries w new
Happens w event.Keep new = Stores (λ m after. Kept m.stage m after) with_entry w new
Happens w (event.FailWith why) new = Stores (λ m after. Unsure m.stage why m after) with_entry w new
Happens w (event.FailWithout why) new = Stores (λ m after. Unsure m.stage why m after) without_entry w new
Happens w (event.FailWithBoth why) new = StoresBoth (λ m after. Unsure m.stage why m after) w new
Happens w (event.Learn others) new = Learns (λ next m after. LearnsAll next others m after) w others new
Happens w (event.FailLearning others why) new = Learns (λ next m after. FailsToLearn next others why m after) w others new
Happens w event.Connect new = Calls (λ m after. after ≡ connected m.stage m) w new
Happens w event.Miss new = Calls (λ m after. after ≡ not_connected m.stage m) w new
Happens w (event.Put most) new = Puts w most new
Happens w (event.Break most fewer why) new = Breaks w most fewer why new
Happens w (event.Hear most) new = Hears w most new
Happens w (event.End why) new = Calls (λ m after. Ended m.stage why m after) w new
Happens w event.HangUp new = Calls (λ m after. after ≡ hung_up m.stage m) w new
Happens w event.News new = Calls TellsNews w new
Happens w event.Tell new = Tells w new
Happens w (event.OnWire e) new = GoesOnWire e w new
Happens w event.Idle new = Idles w new
Happens w event.Crash new = Crashes w new

abbrev pub Runs : World → List Happening → World → Type 0
Runs w [] new = new ≡ w
Runs w (e ∷ es) new = (mid : World) × Happens w e mid × Runs mid es new

-- It has come of a world that began.
pub record HasCome (w : World) : Type 0 where
  pub first : World
  pub happenings : List Happening
  pub begins : Begins first
  pub runs : Runs first happenings w
