-- The machine of a till with one printer: what it asks for, and what each call does.
use Rattle.std.specs.Prelude.{Bool, true, false, ℕ, zero, suc, ◌≡◌, ◌≢◌, ◌⊎◌, ◌+◌, ◌-◌, ◌<◌, ◌≤◌, max, Option, Some, None, List, [], ◌∷◌, ◌++◌, length}
use Rattle.escpos_command.specs.declared.command.Command.{Command}
use Rattle.escpos_command.specs.CommandTable.{AreCommands}
use Rattle.escpos_host.specs.declared.host.HostError.{HostError}
use Rattle.escpos_host.specs.declared.host.HostEvent.{HostEvent}
use Rattle.escpos_host.specs.declared.host.HostEvent.TheVariants as event
use Rattle.escpos_host.specs.declared.send.SendFault.{SendFault}
use Rattle.escpos_host.specs.declared.send.SendFault.TheVariants as fault
use Rattle.escpos_host.specs.Awaits.{RefusesOpening, dialled_reporting}
use Rattle.escpos_host.specs.Heard.{IsHeard}
use Rattle.escpos_host.specs.Machine.{HostView, Down, Open, HasMark, RefusesAsk, RefusesSubmit, gone_down, limit_from, number_limit, reports_asked, submitted, taken_out}
use Rattle.escpos_receipt.specs.Whole.{Whole}
use Rattle.escpos_till.specs.declared.book.Book.{Book}
use Rattle.escpos_till.specs.declared.entry.Content.{Content}
use Rattle.escpos_till.specs.declared.entry.Entry.{Entry}
use Rattle.escpos_till.specs.declared.entry.Entry.TheVariants as entry
use Rattle.escpos_till.specs.declared.further.Further.{Further}
use Rattle.escpos_till.specs.declared.stage.Action.{Action}
use Rattle.escpos_till.specs.declared.stage.Action.TheVariants as action
use Rattle.escpos_till.specs.declared.stage.Due.{Due}
use Rattle.escpos_till.specs.declared.stage.Stage.{Stage}
use Rattle.escpos_till.specs.declared.stage.Stage.TheVariants as stage
use Rattle.escpos_till.specs.declared.stage.Talk.{Talk}
use Rattle.escpos_till.specs.declared.stage.Then.{Then}
use Rattle.escpos_till.specs.declared.stage.Then.TheVariants as then
use Rattle.escpos_till.specs.declared.note.TillNote.{TillNote}
use Rattle.escpos_till.specs.declared.note.TillNote.TheVariants as note
use Rattle.escpos_till.specs.declared.note.TillRefusal.{TillRefusal}
use Rattle.escpos_till.specs.declared.note.TillRefusal.TheVariants as refusal
use Rattle.escpos_till.specs.declared.pause.Pause.{Pause}
use Rattle.escpos_till.specs.declared.pause.Paused.{Paused}
use Rattle.escpos_till.specs.declared.state.ReceiptState.TheVariants as state
use Rattle.escpos_till.specs.declared.store.StoreFault.{StoreFault}
use Rattle.escpos_till.specs.Book.{HasRoom, HasTryRoom, IsBookOf, Notes}
use Rattle.escpos_till.specs.Pauses.{IsAfterBlock, no_news, not_paused}
use Rattle.escpos_till.specs.Tries.{ClosesTry}
use Rattle.escpos_till.specs.Contents.{GivesReceipt, IsContentFault}
use Rattle.escpos_till.specs.Delivers.{Due as IsDue, FirstWaits, fresh, marks_taken, most_entries}
use Rattle.escpos_till.specs.Further.{GoesFurther, heard_by}
use Rattle.escpos_till.specs.Entries.{HasKey, IsLedger, MayFollow, Waits, earlier, heard, last_number, next_free, state_of, times_tried, waiting}

-- ## The model of a machine

-- What it knows of its ledger, its host, and where it stands.
pub record MachineView : Type 0 where
  pub book : Book
  pub host : HostView
  pub stage : Stage

abbrev pub at : MachineView → Stage → MachineView
at m s = record { book = m.book; host = m.host; stage = s }

abbrev pub with_host : MachineView → HostView → Stage → MachineView
with_host m h s = record { book = m.book; host = h; stage = s }

-- The numbers of the marks that may be put are below this one: no two marks that may still be answered have one id.
abbrev pub mark_limit : Book → ℕ
mark_limit b = limit_from b.heard

-- All marks are answered.
abbrev pub AllAnswered : Book → Type 0
AllAnswered b = b.heard ≡ b.next

-- The last number to which the next one may be raised: it leaves as many as a try takes, one for an opening mark and one for the closing mark.
-- Where all marks are answered, that is any but the last.
abbrev pub IsLastFirst : Book → ℕ → Type 0
IsLastFirst b last = (AllAnswered b × (last ≡ number_limit - 2)) ⊎ ((AllAnswered b → ⊥) × (last ≡ mark_limit b - 2))

-- The number is allowed only where no mark below it can be answered. All of this ledger's own are answered.
abbrev pub PassesLimit : Book → ℕ → Type 0
PassesLimit b first = AllAnswered b × (mark_limit b < first + 2)

-- No mark below the number to which the next one is raised can be answered, where that number needs it. Otherwise nothing is said of marks: those
-- below it may have been put with another ledger.
abbrev pub IsRaisedTo : Book → ℕ → Entry → Type 0
IsRaisedTo b first e = (PassesLimit b first × (e ≡ entry.Raised first first)) ⊎ ((PassesLimit b first → ⊥) × (e ≡ entry.Raised first 0))

-- What follows suits the entry.
abbrev pub Suits : Then → Entry → Type 0
Suits then.Queued (entry.Queued content) = Unit {0}
Suits (then.Take content) (entry.Key key) = Unit {0}
Suits (then.Take content) (entry.Raised next h) = Unit {0}
Suits then.Raised (entry.Raised next h) = Unit {0}
Suits (then.Send due) (entry.Tried number next) = number ≡ due.number
Suits (then.Recorded number) (entry.Recorded n h) = n ≡ number
Suits (then.Cancelled number tried) (entry.Cancelled n) = n ≡ number
Suits (then.GoOn number tried due) (entry.Recorded n h) = (n ≡ number) × ((limit : ℕ) × (tried ≡ entry.Tried due.number limit))
Suits (then.SendNext recorded due) (entry.Tried number limit) = number ≡ due.number
Suits next e = ⊥

-- The entry that is to be kept together with that one, if there is one.
abbrev pub entry_with : Then → Option Entry
entry_with (then.GoOn number tried due) = Some tried
entry_with next = None

abbrev pub entry_with_at : Stage → Option Entry
entry_with_at (stage.Keeping e next) = entry_with next
entry_with_at s = None

-- How many entries may follow that one before the machine is at rest, or goes on with another receipt.
abbrev pub entries_to_come : Then → ℕ
entries_to_come (then.Send due) = 1
entries_to_come (then.GoOn number tried due) = 2
entries_to_come (then.SendNext recorded due) = 1
entries_to_come (then.Take content) = 1
entries_to_come next = 0

-- The receipt may be tried.
abbrev pub MayTry : List Entry → Due → Type 0
MayTry es due = Waits es due.number × (next_free es + marks_taken due.openings ≤ limit_from (heard es)) × (length es + 1 < most_entries)

-- The note says what came of a call: not that the printer pauses while it is served.
abbrev pub IsFinal : TillNote → Type 0
IsFinal (note.Paused number why) = ⊥
IsFinal n = Unit {0}

abbrev pub EndsFinally : Stage → Type 0
EndsFinally (stage.HangingUp n) = IsFinal n
EndsFinally (stage.Telling n) = IsFinal n
EndsFinally s = Unit {0}

-- What is to be kept together with an entry may follow it.
abbrev pub FitsWith : Book → List Entry → Entry → Then → Type 0
FitsWith b es e (then.GoOn number tried due) = MayFollow (es ++ e ∷ []) tried × HasTryRoom b
FitsWith b es e next = Unit {0}

-- A stage fits these entries: what is to be kept may follow them; and it ends with what came of its call.
abbrev pub Fits : Book → List Entry → Stage → Type 0
Fits b es (stage.Connecting due) = MayTry es due × HasTryRoom b
Fits b es (stage.Keeping e next) = MayFollow es e × Suits next e × (length es + entries_to_come next < most_entries) × ((content : Content) → e ≡ entry.Queued content → HasRoom b)
    × ((number next : ℕ) → e ≡ entry.Tried number next → HasTryRoom b) × ((content : Content) → next ≡ then.Take content → HasRoom b)
    × FitsWith b es e next
Fits b es (stage.Talking talk) = Waits es talk.number × (0 < times_tried es talk.number) × (length es < most_entries)
Fits b es (stage.HangingUp n) = IsFinal n
Fits b es (stage.Telling n) = IsFinal n
Fits b es s = Unit {0}

-- What holds for every machine: it is that of some entries.
pub record IsMachine (m : MachineView) : Type 0 where
  pub entries : List Entry
  pub book : IsBookOf m.book entries
  pub ledger : IsLedger entries
  pub fits : Fits m.book entries m.stage

-- What is to be sent is a receipt: its commands are in range, and it is whole.
abbrev pub SendsReceipt : Stage → Type 0
SendsReceipt (stage.Connecting due) = AreCommands due.receipt × Whole due.receipt
SendsReceipt s = Unit {0}

-- A new machine: it is at rest, with a host that has sent nothing, whose first mark will have the next number, and which knows what was heard.
pub record IsStarted (m : MachineView) : Type 0 where
  pub host : m.host ≡ fresh m.book.next m.book.heard
  pub stage : m.stage ≡ stage.AtRest

-- ## What it asks for

-- What its owner is to be told while it talks: that the receipt before is recorded, and then that the printer prints nothing for now.
abbrev pub pause_news : ℕ → Option Pause → Bool → Option TillNote
pause_news number (Some why) true = Some (note.Paused number why)
pause_news number why is_news = None

abbrev pub news_in : Option ℕ → ℕ → Option Pause → Bool → Option TillNote
news_in (Some recorded) number why is_news = Some (note.Recorded recorded)
news_in None number why is_news = pause_news number why is_news

abbrev pub news_of : Talk → Option TillNote
news_of talk = news_in talk.recorded talk.number talk.paused.why talk.paused.is_news

abbrev pub IsPausing : Stage → Type 0
IsPausing (stage.Talking talk) = talk.paused.why ≢ None
IsPausing s = ⊥

abbrev pub PutsFirst : HostView → Action → ℕ → Type 0
PutsFirst h (action.Put) left = h.out ≢ []
PutsFirst h (action.Wait most) left = (h.out ≡ []) × (most ≡ left)
PutsFirst h _ left = ⊥

abbrev pub AsksIn : HostView → Option TillNote → ℕ → Action → Type 0
AsksIn h (Some n) left a = a ≡ action.Tell n
AsksIn h None left a = PutsFirst h a left

-- A machine at this stage asks for this.
abbrev pub Asks : MachineView → Stage → Action → Type 0
Asks m (stage.Connecting due) a = a ≡ action.Connect
Asks m (stage.Keeping e next) (action.Append asked) = asked.now ≡ e
Asks m (stage.Keeping e next) _ = ⊥
Asks m (stage.Talking talk) a = AsksIn m.host (news_of talk) talk.left a
Asks m (stage.HangingUp n) a = a ≡ action.HangUp
Asks m (stage.Telling n) a = a ≡ action.Tell n
Asks m _ a = a ≡ action.Nothing

-- It asks for nothing.
abbrev pub Rests : Stage → Type 0
Rests stage.AtRest = Unit {0}
Rests stage.Failed = Unit {0}
Rests s = ⊥

-- ## Calls of a machine at rest

-- A key is known if a receipt has it, which has this number then; it is new if none has it. Where there is no key, that is as with a new one.
abbrev pub IsKnown : Book → Option (List ℕ) → ℕ → Type 0
IsKnown b (Some key) number = (entries : List Entry) → IsBookOf b entries → HasKey entries key number
IsKnown b None number = ⊥

abbrev pub IsNew : Book → Option (List ℕ) → Type 0
IsNew b (Some key) = (entries : List Entry) → IsBookOf b entries → (number : ℕ) → HasKey entries key number → ⊥
IsNew b None = Unit {0}

-- What is to be kept first of a receipt: its key, or else the receipt itself. But where the last entry says a key that isn't this receipt's, the
-- next mark number is said once more between them, so that the receipt doesn't get that key.
abbrev pub taking : Option (List ℕ) → Option (List ℕ) → ℕ → Content → Stage
taking (Some key) last next content = stage.Keeping (entry.Key key) (then.Take content)
taking None (Some last) next content = stage.Keeping (entry.Raised next 0) (then.Take content)
taking None None next content = stage.Keeping (entry.Queued content) then.Queued

-- It is to keep that a receipt with this content is taken, which comes with this key or with none; or, if a receipt has the key, it is to tell
-- that receipt's number.
pub record Queues (m : MachineView) (content : Content) (key : Option (List ℕ)) (after : MachineView) : Type 0 where
  pub rest : m.stage ≡ stage.AtRest
  pub gives : GivesReceipt content
  pub host : after.host ≡ m.host
  pub book : (entries : List Entry) → IsBookOf m.book entries → IsBookOf after.book entries
  pub goes : ((number : ℕ) × IsKnown m.book key number × (after.stage ≡ stage.Telling (note.Queued number)))
      ⊎ (IsNew m.book key × (after.stage ≡ taking key m.book.last_key m.book.next content))

-- It is to keep that the next mark number is this.
pub record Raises (m : MachineView) (first : ℕ) (after : MachineView) : Type 0 where
  pub rest : m.stage ≡ stage.AtRest
  pub least : m.book.next ≤ first
  pub last : ℕ
  pub last_is : IsLastFirst m.book last
  pub most : first ≤ last
  pub kept : Entry
  pub kept_is : IsRaisedTo m.book first kept
  pub after_is : after ≡ at m (stage.Keeping kept then.Raised)

-- It is to keep that a receipt is cancelled, which waits and was tried so often.
pub record Cancels (m : MachineView) (number : ℕ) (after : MachineView) : Type 0 where
  pub rest : m.stage ≡ stage.AtRest
  pub tried : ℕ
  pub waits : (entries : List Entry) → IsBookOf m.book entries → Waits entries number × (times_tried entries number ≡ tried)
  pub after_is : after ≡ at m (stage.Keeping (entry.Cancelled number) (then.Cancelled number tried))

-- It is the first receipt that waits, and there are enough mark numbers for it.
pub record IsNext (b : Book) (openings most : ℕ) (copy : Option (List ℕ)) (due : Due) : Type 0 where
  pub marks : due.openings ≡ openings
  pub answers : due.most ≡ most
  pub first : (entries : List Entry) → IsBookOf b entries → IsDue entries copy due.number due.receipt
  pub within : b.next + marks_taken openings ≤ mark_limit b

-- How the receipts after it are sent over the same link, if they are to be.
abbrev pub further_of : Bool → ℕ → Option (List ℕ) → Option Further
further_of true most copy = Some (record { most = most; copy = copy })
further_of false most copy = None

-- It is to connect for the first receipt that waits.
pub record Delivers (m : MachineView) (openings most : ℕ) (copy : Option (List ℕ)) (further : Bool) (after : MachineView) : Type 0 where
  pub rest : m.stage ≡ stage.AtRest
  pub due : Due
  pub next : IsNext m.book openings most copy due
  pub later : due.further ≡ further_of further most copy
  pub host : after.host ≡ m.host
  pub book : (entries : List Entry) → IsBookOf m.book entries → IsBookOf after.book entries
  pub connects : after.stage ≡ stage.Connecting due

-- ## Why a call is refused: what holds of the machine then. The first reason that applies counts; out of memory may come in place of
-- any but the first two.

-- Why any of them is.
abbrev pub RefusesAny : MachineView → TillRefusal → Type 0
RefusesAny m refusal.Busy = (m.stage ≢ stage.AtRest) × (m.stage ≢ stage.Failed)
RefusesAny m refusal.Failed = m.stage ≡ stage.Failed
RefusesAny m refusal.Memory = m.stage ≡ stage.AtRest
RefusesAny m why = ⊥

-- Why the next mark number isn't raised to this one.
abbrev pub RefusesRaise : MachineView → ℕ → TillRefusal → Type 0
RefusesRaise m first (refusal.MarkReused next) = (m.stage ≡ stage.AtRest) × (next ≡ m.book.next) × (first < next)
RefusesRaise m first (refusal.MarkTooHigh last) = (m.stage ≡ stage.AtRest) × (m.book.next ≤ first) × IsLastFirst m.book last × (last < first)
RefusesRaise m first why = RefusesAny m why

-- Why a receipt isn't cancelled: it was never taken, or an older ledger has taken it; or it is recorded, or cancelled.
abbrev pub RefusesCancel : MachineView → ℕ → TillRefusal → Type 0
RefusesCancel m number (refusal.NotTaken n) = (m.stage ≡ stage.AtRest) × (n ≡ number) × ((entries : List Entry) → IsBookOf m.book entries → last_number entries < number)
RefusesCancel m number (refusal.Earlier n) = (m.stage ≡ stage.AtRest) × (n ≡ number) × ((entries : List Entry) → IsBookOf m.book entries → number ≤ earlier entries)
RefusesCancel m number (refusal.Recorded n) =
    (m.stage ≡ stage.AtRest) × (n ≡ number) × ((entries : List Entry) → IsBookOf m.book entries → (place : ℕ) × (state_of entries number ≡ state.Recorded place))
RefusesCancel m number (refusal.Cancelled n) =
    (m.stage ≡ stage.AtRest) × (n ≡ number) × ((entries : List Entry) → IsBookOf m.book entries → (tried : ℕ) × (state_of entries number ≡ state.Cancelled tried))
RefusesCancel m number why = RefusesAny m why

-- Of the first receipt that waits, which has this number, this holds.
abbrev pub OfFirst : Book → ℕ → (Content → Type 0) → Type 0
OfFirst b number Holds = (entries : List Entry) → IsBookOf b entries → (content : Content) × (tried : ℕ) × FirstWaits entries number content tried × Holds content

-- Why no receipt is delivered over a link with so many opening marks.
abbrev pub RefusesDeliver : MachineView → ℕ → TillRefusal → Type 0
RefusesDeliver m openings refusal.NothingWaits = (m.stage ≡ stage.AtRest) × ((entries : List Entry) → IsBookOf m.book entries → waiting entries ≡ [])
RefusesDeliver m openings (refusal.NoReceipt number why) = (m.stage ≡ stage.AtRest) × OfFirst m.book number (λ content. IsContentFault why content)
RefusesDeliver m openings (refusal.MarksUsedUp number) =
    (m.stage ≡ stage.AtRest) × OfFirst m.book number (λ content. Unit {0}) × (mark_limit m.book < m.book.next + marks_taken openings)
RefusesDeliver m openings why = RefusesAny m why

-- It has the same entries, whatever room it has for more.
pub record SameEntries (m after : MachineView) : Type 0 where
  pub host : after.host ≡ m.host
  pub stage : after.stage ≡ m.stage
  pub book : (entries : List Entry) → IsBookOf m.book entries → IsBookOf after.book entries

-- ## What it is told

-- A host gives its link up, if it has one.
abbrev pub Drops : HostView → HostView → Type 0
Drops h after = (h.phase ≡ Down → after ≡ h) × (h.phase ≢ Down → after ≡ gone_down h)

-- A talk that begins; and the same one later.
abbrev pub first_talk : Due → Talk
first_talk due = record { number = due.number; receipt = Some due.receipt; left = due.most; paused = not_paused; further = due.further; recorded = None }

abbrev pub with_left : Talk → ℕ → Talk
with_left talk left =
    record { number = talk.number; receipt = talk.receipt; left = left; paused = talk.paused; further = talk.further; recorded = talk.recorded }

abbrev pub with_sent : Talk → ℕ → Talk
with_sent talk left = record { number = talk.number; receipt = None; left = left; paused = talk.paused; further = talk.further; recorded = talk.recorded }

abbrev pub with_pause : Talk → Paused → Talk
with_pause talk p =
    record { number = talk.number; receipt = talk.receipt; left = talk.left; paused = p; further = talk.further; recorded = talk.recorded }

-- The talk of a receipt that is sent over the link of the one before, which is recorded.
abbrev pub next_talk : ℕ → Due → Talk
next_talk recorded due = record { number = due.number; receipt = None; left = due.most; paused = not_paused; further = due.further; recorded = Some recorded }

-- Its owner knows what was news.
abbrev pub after_news : Option ℕ → Talk → Talk
after_news (Some recorded) talk =
    record { number = talk.number; receipt = talk.receipt; left = talk.left; paused = talk.paused; further = talk.further; recorded = None }
after_news None talk = with_pause talk (no_news talk.paused)

-- A fresh host, whose first mark has this number, and which knows what was heard, puts the opening marks out, after a request for automatic status; or
-- it refuses to.
abbrev pub Opens : Due → ℕ → ℕ → HostView → Stage → Type 0
Opens due first heard h s =
    ((h ≡ dialled_reporting (fresh first heard) (max due.openings 1)) × (s ≡ stage.Talking (first_talk due)))
    ⊎ ((why : HostError) × RefusesOpening why (fresh first heard) (max due.openings 1) h × (s ≡ stage.HangingUp (note.Waiting due.number (fault.Refused why))))

-- A host whose link is open is given the receipt, after a request for automatic status; or it refuses one of them.
abbrev pub Sends : List Command → HostView → HostView → Type 0
Sends receipt before h = (before.phase ≡ Open []) × HasMark before × (h ≡ submitted (reports_asked before) [] receipt)

abbrev pub RefusesSending : HostError → HostView → Type 0
RefusesSending why h = RefusesAsk why h ⊎ ((h.phase ≡ Open []) × RefusesSubmit why (reports_asked h))

-- The next receipt is sent over the link of the one before, which is recorded. Or the host refuses that: the link is given up, and the next
-- receipt waits.
abbrev pub SendsNext : ℕ → Due → HostView → HostView → Stage → Type 0
SendsNext recorded due before h s =
    (Sends due.receipt before h × (s ≡ stage.Talking (next_talk recorded due)))
    ⊎ ((why : HostError) × RefusesSending why before × Drops before h × (s ≡ stage.HangingUp (note.Recorded recorded)))

-- What follows once the entry is kept, where this host was there, and this mark number was the next; the book is the new one.
abbrev pub Follows : Then → HostView → ℕ → Book → HostView → Stage → Type 0
Follows then.Queued before first b h s = (number : ℕ) × (number ≡ b.earlier + length b.states.items) × (h ≡ before) × (s ≡ stage.Telling (note.Queued number))
Follows (then.Take content) before first b h s = (h ≡ before) × (s ≡ stage.Keeping (entry.Queued content) then.Queued)
Follows then.Raised before first b h s = (h ≡ before) × (s ≡ stage.Telling note.Raised)
Follows (then.Cancelled number tried) before first b h s = (h ≡ before) × (s ≡ stage.Telling (note.Cancelled number tried))
Follows (then.Send due) before first b h s = Opens due first b.heard h s
Follows (then.Recorded number) before first b h s = Drops before h × (s ≡ stage.HangingUp (note.Recorded number))
Follows (then.GoOn number tried due) before first b h s = (h ≡ before) × (s ≡ stage.Keeping tried (then.SendNext number due))
Follows (then.SendNext recorded due) before first b h s = SendsNext recorded due before h s

-- The entry is kept.
abbrev pub Kept : Stage → MachineView → MachineView → Type 0
Kept (stage.Keeping e next) m after = Notes m.book e after.book × Follows next m.host m.book.next after.book after.host after.stage
Kept s m after = after ≡ m

-- The store couldn't tell whether it is. The link, if there is one, is given up first.
abbrev pub lost : Then → StoreFault → Stage
lost then.Queued why = stage.Telling (note.NotKept why)
lost (then.Take content) why = stage.Telling (note.NotKept why)
lost then.Raised why = stage.Telling (note.NotKept why)
lost (then.Cancelled number tried) why = stage.Telling (note.NotKept why)
lost (then.Send due) why = stage.HangingUp (note.NotKept why)
lost (then.Recorded number) why = stage.HangingUp (note.NotKept why)
lost (then.GoOn number tried due) why = stage.HangingUp (note.NotKept why)
lost (then.SendNext recorded due) why = stage.HangingUp (note.NotKept why)

abbrev pub Unsure : Stage → StoreFault → MachineView → MachineView → Type 0
Unsure (stage.Keeping e next) why m after = Drops m.host after.host × (after.book ≡ m.book) × (after.stage ≡ lost next why)
Unsure s why m after = after ≡ m

-- There is a link: the try is kept, before a byte goes out.
abbrev pub connected : Stage → MachineView → MachineView
connected (stage.Connecting due) m =
    at m (stage.Keeping (entry.Tried due.number (m.book.next + marks_taken due.openings)) (then.Send due))
connected s m = m

-- There is none.
abbrev pub not_connected : Stage → MachineView → MachineView
not_connected (stage.Connecting due) m = at m (stage.Telling (note.NoLink due.number))
not_connected s m = m

-- The first bytes that are to be put were taken out.
abbrev pub put : Stage → ℕ → MachineView → MachineView
put (stage.Talking talk) n m = with_host m (taken_out m.host n) (stage.Talking talk)
put s n m = m

-- The talk goes on, where so many bytes of answers may still be read.
abbrev pub GoesOn : Talk → ℕ → HostView → HostView → Stage → Type 0
GoesOn talk zero before h s = Drops before h × (s ≡ stage.HangingUp (note.Waiting talk.number fault.TooLong))
GoesOn talk (suc left) before h s = (h ≡ before) × (s ≡ stage.Talking (with_left talk (suc left)))

-- The link is open: the receipt is sent, or refused.
abbrev pub Submits : Talk → Option (List Command) → ℕ → HostView → HostView → Stage → Type 0
Submits talk (Some receipt) (suc left) before h s =
    (Sends receipt before h × (s ≡ stage.Talking (with_sent talk (suc left))))
    ⊎ ((why : HostError) × RefusesSending why before × Drops before h × (s ≡ stage.HangingUp (note.Waiting talk.number (fault.Refused why))))
Submits talk receipt left before h s = GoesOn talk left before h s

-- The printer tells its condition, and the talk goes on.
abbrev pub Hears : Talk → List ℕ → ℕ → HostView → HostView → Stage → Type 0
Hears talk block left before h s = (p : Paused) × IsAfterBlock talk.paused block p × GoesOn (with_pause talk p) left before h s

-- The receipt is printed: that is to be kept, with what the host has heard.
abbrev pub printed : Book → ℕ → HostView → Stage
printed b number h = stage.Keeping (entry.Recorded number (heard_by b h)) (then.Recorded number)

-- What an event does, where so many bytes of answers may still be read. An answer to a mark of an older link that closed a try of the
-- receipt shows that it is printed; so it isn't sent again. That mark is one of which the ledger doesn't know yet, and the host does, that it
-- can't be answered any more.
abbrev pub Turns : Book → HostEvent → Talk → ℕ → HostView → HostView → Stage → Type 0
Turns b event.None talk left before h s = GoesOn talk left before h s
Turns b (event.Status byte) talk left before h s = GoesOn talk left before h s
Turns b (event.Condition block) talk left before h s = Hears talk block left before h s
Turns b event.Opened talk left before h s = Submits talk talk.receipt left before h s
Turns b (event.Recorded place) talk left before h s = (h ≡ before) × ((s ≡ printed b talk.number before) ⊎ GoesFurther b talk.number talk.further before s)
Turns b (event.Late id) talk left before h s =
    (ClosesTry b.tries.items b.heard before.heard talk.number id × (h ≡ before) × (s ≡ printed b talk.number before))
    ⊎ ((ClosesTry b.tries.items b.heard before.heard talk.number id → ⊥) × GoesOn talk left before h s)
Turns b (event.BadAnswer place) talk left before h s = Drops before h × (s ≡ stage.HangingUp (note.Waiting talk.number fault.BadAnswer))

-- A host hears bytes up to the first event, and with no link none of them.
abbrev pub HearsOne : HostView → List ℕ → ℕ → HostEvent → HostView → Type 0
HearsOne h bytes consumed e after =
    (h.phase ≡ Down → (consumed ≡ length bytes) × (e ≡ event.None) × (after ≡ h)) × (h.phase ≢ Down → IsHeard h bytes consumed e after)

-- It is on a link: it talks, or is to keep what it has heard, or that the next receipt is tried over the same link.
abbrev pub IsLinked : Stage → Type 0
IsLinked (stage.Talking talk) = Unit {0}
IsLinked (stage.Keeping e (then.Recorded number)) = Unit {0}
IsLinked (stage.Keeping e (then.GoOn number tried due)) = Unit {0}
IsLinked (stage.Keeping e (then.SendNext recorded due)) = Unit {0}
IsLinked s = ⊥

-- It is to go on with the next receipt over the same link.
abbrev pub IsGoingOn : Stage → Type 0
IsGoingOn (stage.Keeping e (then.GoOn number tried due)) = Unit {0}
IsGoingOn s = ⊥

-- Bytes of answers came, and so many of them were heard. It goes on with the next receipt only if all were: those that weren't are dropped.
abbrev pub Came : Stage → List ℕ → ℕ → MachineView → MachineView → Type 0
Came (stage.Talking talk) bytes consumed m after =
    (e : HostEvent) × (h : HostView) × HearsOne m.host bytes consumed e h × Turns m.book e talk (talk.left - consumed) h after.host after.stage × (after.book ≡ m.book)
    × (IsGoingOn after.stage → consumed ≡ length bytes)
Came s bytes consumed m after = (consumed ≡ length bytes) × (after ≡ m)

-- What the end of a link means: a printer that pauses was waited for as long as may be.
abbrev pub ended_by_pause : ℕ → SendFault → Option Pause → TillNote
ended_by_pause number fault.TimedOut (Some why) = note.StillPaused number why
ended_by_pause number why pause = note.Waiting number why

abbrev pub ended_by : Talk → SendFault → TillNote
ended_by talk why = ended_by_pause talk.number why talk.paused.why

-- The link has ended, or was waited for as long as may be.
abbrev pub Ended : Stage → SendFault → MachineView → MachineView → Type 0
Ended (stage.Talking talk) why m after =
    Drops m.host after.host × (after.book ≡ m.book) × (after.stage ≡ stage.HangingUp (ended_by talk why))
Ended s why m after = after ≡ m

-- The link is given up. The host has done so before.
abbrev pub hung_up : Stage → MachineView → MachineView
hung_up (stage.HangingUp n) m = at m (stage.Telling n)
hung_up s m = m

-- Its owner knows.
abbrev pub after_note : TillNote → Stage
after_note (note.NotKept why) = stage.Failed
after_note n = stage.AtRest

abbrev pub told : Stage → MachineView → MachineView
told (stage.Telling n) m = at m (after_note n)
told (stage.Talking talk) m = at m (stage.Talking (after_news talk.recorded talk))
told s m = m
