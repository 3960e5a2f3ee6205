-- The event table: what each event does to a line, its effect as reported, and why it is refused.
--
-- A link carries bytes one way, from the host to the printer, and answers the other way. It may be cut at any moment, and
-- neither end learns from that what the other one has received. So bytes stay on a link that the host has given up, until
-- the printer has them or leaves it; and an answer that the printer hands over to such a link is lost, and so is one that
-- is on its way when the host gives its link up. The printer serves its links in the order in which they were opened, and
-- knows nothing of them: it is a stream to it, and a command cut off on one link may be completed by the next.
--
--   Event          | What it does
--   LinkUp,        | the host opens a link, with a request for automatic status or without; a new one with nothing on it is
--   LinkUpReporting | the live one
--   Nudge, Submit, | what the host's machine says
--   Ask, AskReports |
--   Move k         | up to k bytes leave the host: for the end of the live link, or lost where there is none
--   Deliver k      | the printer is fed up to k first bytes of the first link; after a fault it leaves that link
--   HandOver       | the oldest answer leaves the printer: on its way to the host where the only link is the live one, lost where the first
--                  | one has ended; where there is no link it stays
--   Answer k       | the host hears up to k first bytes of those on their way, event after event; if one fits no answer, it is off its link
--   PrinterLeaves  | the first link is gone, with what is on it
--   PrinterRestart | the printer is restarted, and leaves the first link
--   HostDrops      | the host is off its link
--   HostRestart f  | the host is made anew from its records, with f for its next mark, and is off its link
--   SetCondition c | the printer's sensors say c
--
-- `After event line note after`: the event may happen to this line; then `note` is its effect, and `after` is the line.
-- `Refuses event line why`: the event is refused for this reason; `Leaves` says what is left then.
use Rattle.std.specs.Prelude.{ℕ, ◌≡◌, ◌≢◌, ◌<◌, ◌≤◌, ◌⊎◌, min, List, [], ◌∷◌, ◌++◌, length, take, drop, Option, Some, None, option_map, option_to_list}
use Rattle.escpos_command.specs.declared.answer.Answer.{Answer}
use Rattle.escpos_command.specs.declared.command.Command.{Command}
use Rattle.escpos_command.specs.Answers.{answer_bytes}
use Rattle.escpos_paper.specs.Page.{SheetIs}
use Rattle.escpos_printer.specs.declared.condition.Condition.{Condition}
use Rattle.escpos_printer.specs.declared.printer.Fed.{Fed}
use Rattle.escpos_printer.specs.declared.printer.FeedStop.{FeedStop}
use Rattle.escpos_printer.specs.declared.printer.FeedStop.TheVariants as stop
use Rattle.escpos_printer.specs.Replies.{after_change}
use Rattle.escpos_printer.specs.Feeds.{PrinterView, Feeds}
use Rattle.escpos_host.specs.declared.host.HostError.{HostError}
use Rattle.escpos_host.specs.declared.host.HostEvent.{HostEvent}
use Rattle.escpos_host.specs.declared.host.HostEvent.TheVariants as heard
use Rattle.escpos_host.specs.Heard.{HearsAll, last_of}
use Rattle.escpos_host.specs.Machine.{HasMark, HostView, InFlight, IsOpening, Phase, Down, Open, RefusesAsk, RefusesLinkUp, RefusesNudge, RefusesSubmit, asked, gone_down, linked, linked_reporting, most_in_flight, nudged, reports_asked, submitted, taken_out}
use Rattle.escpos_link.specs.declared.event.Event.{Event}
use Rattle.escpos_link.specs.declared.event.Event.TheVariants as event
use Rattle.escpos_link.specs.declared.event.Handed.{Handed}
use Rattle.escpos_link.specs.declared.event.Handed.TheVariants as handed
use Rattle.escpos_link.specs.declared.event.Note.{Note}
use Rattle.escpos_link.specs.declared.event.Note.TheVariants as note
use Rattle.escpos_link.specs.declared.event.Refusal.{Refusal}
use Rattle.escpos_link.specs.declared.event.Refusal.TheVariants as refusal
use Rattle.escpos_link.specs.declared.event.Refused.{Refused}
use Rattle.escpos_link.specs.Line.{LineView}
use Rattle.escpos_link.specs.Refusals.{of_host}

-- ## Parts of a line

-- The line with another host, and with another printer.
abbrev pub with_host : LineView → HostView → LineView
with_host l host = record { host = host; printer = l.printer; ended = l.ended; live = l.live; coming = l.coming }

abbrev pub with_printer : LineView → PrinterView → LineView
with_printer l printer = record { host = l.host; printer = printer; ended = l.ended; live = l.live; coming = l.coming }

-- The bytes on the first link, the one that the printer serves: the oldest that was given up, otherwise the live one.
abbrev pub first_of : List (List ℕ) → Option (List ℕ) → List ℕ
first_of (bytes ∷ others) live = bytes
first_of [] (Some bytes) = bytes
first_of [] None = []

abbrev pub first_link : LineView → List ℕ
first_link l = first_of l.ended l.live

-- The links without the first bytes of the first one.
abbrev pub ended_fed : List (List ℕ) → ℕ → List (List ℕ)
ended_fed [] k = []
ended_fed (bytes ∷ others) k = drop k bytes ∷ others

abbrev pub live_fed : List (List ℕ) → Option (List ℕ) → ℕ → Option (List ℕ)
live_fed [] live k = option_map (drop k) live
live_fed (bytes ∷ others) live k = live

-- The live link after the first one is gone: it may have been that one.
abbrev pub live_left : List (List ℕ) → Option (List ℕ) → Option (List ℕ)
live_left [] live = None
live_left (bytes ∷ others) live = live

-- ## What events do

-- A new link is the live one.
abbrev pub with_new_link : LineView → HostView → LineView
with_new_link l host = record { host = host; printer = l.printer; ended = l.ended; live = Some []; coming = l.coming }

abbrev pub linked_up : LineView → LineView
linked_up l = with_new_link l (linked l.host)

-- The first bytes to take out left the host, for the live link.
abbrev pub put_on : Option (List ℕ) → List ℕ → Option (List ℕ)
put_on live bytes = option_map (λ before. before ++ bytes) live

abbrev pub moved : LineView → ℕ → LineView
moved l n = record { host = taken_out l.host n; printer = l.printer; ended = l.ended; live = put_on l.live (take n l.host.out); coming = l.coming }

-- The first bytes of the first link reached the printer.
abbrev pub delivered : LineView → ℕ → PrinterView → LineView
delivered l k printer = record { host = l.host; printer = printer; ended = ended_fed l.ended k; live = live_fed l.ended l.live k; coming = l.coming }

-- The printer has left the first link.
abbrev pub without_first : LineView → LineView
without_first l = record { host = l.host; printer = l.printer; ended = drop 1 l.ended; live = live_left l.ended l.live; coming = l.coming }

-- A fault ends the link.
abbrev pub left_by : FeedStop → LineView → LineView
left_by (stop.Fault at why) l = without_first l
left_by _ l = l

-- The host is off its link: what was put on it stays, and nothing is on its way to the host.
abbrev pub off_link : LineView → LineView
off_link l = record { host = l.host; printer = l.printer; ended = l.ended ++ option_to_list l.live; live = None; coming = [] }

-- The first answer left the printer, and these are the others.
abbrev pub answers_left : PrinterView → List Answer → PrinterView
answers_left p answers = record { sheet = p.sheet; half = p.half; waiting = answers; condition = p.condition; automatic = p.automatic }

-- An answer is on its way to the host.
abbrev pub on_its_way : LineView → Answer → List Answer → LineView
on_its_way l a answers =
    record { host = l.host; printer = answers_left l.printer answers; ended = l.ended; live = l.live; coming = l.coming ++ answer_bytes a }

abbrev pub HandsOver : LineView → Handed → LineView → Type 0
HandsOver l handed.None after = ((l.printer.waiting ≡ []) ⊎ ((l.ended ≡ []) × (l.live ≡ None))) × (after ≡ l)
HandsOver l handed.Lost after =
    (a : Answer) × (answers : List Answer) × (l.printer.waiting ≡ a ∷ answers) × (l.ended ≢ []) × (after ≡ with_printer l (answers_left l.printer answers))
HandsOver l handed.On after =
    (a : Answer) × (answers : List Answer) × (l.printer.waiting ≡ a ∷ answers) × (l.ended ≡ []) × (l.live ≢ None) × (after ≡ on_its_way l a answers)

-- The host heard this many of the bytes on their way, up to an event that ends its link if it was one.
abbrev pub heard_to : HostEvent → LineView → ℕ → HostView → LineView
heard_to (heard.BadAnswer at) l consumed host = off_link (with_host l host)
heard_to _ l consumed host = record { host = host; printer = l.printer; ended = l.ended; live = l.live; coming = drop consumed l.coming }

-- The last event as reported: the place of a byte that fits no answer is counted in all that was heard.
abbrev pub told_at : HostEvent → ℕ → HostEvent
told_at (heard.BadAnswer at) consumed = heard.BadAnswer consumed
told_at e consumed = e

-- The printer was switched off and on: automatic status is off then.
pub record Restarted (before after : PrinterView) : Type 0 where
  pub sheet : SheetIs before.sheet.line_dots after.sheet before.sheet.items []
  pub half : after.half ≡ []
  pub waiting : after.waiting ≡ []
  pub condition : after.condition ≡ before.condition
  pub automatic : after.automatic ≡ 0

-- The printer's sensors say this. If that is new, and automatic status is on, a block of it waits.
abbrev pub conditioned : PrinterView → Condition → PrinterView
conditioned p condition = record {
  sheet = p.sheet;
  half = p.half;
  waiting = after_change p.automatic p.condition condition p.waiting;
  condition = condition;
  automatic = p.automatic;
}

-- The host has given its link up, if it had one.
abbrev pub hung_up : Phase → HostView → HostView
hung_up Down h = h
hung_up _ h = gone_down h

-- The host is made anew from its records, and from what it had heard.
abbrev pub restarted : HostView → ℕ → HostView
restarted h f = record { phase = Down; out = []; half = []; next = f; heard = min h.heard f; records = h.records; left = [] }

-- ## The table

abbrev pub After : Event → LineView → Note → LineView → Type 0
After event.LinkUp l n after = (n ≡ note.Done) × (l.host.phase ≡ Down) × HasMark l.host × (after ≡ linked_up l)
After event.LinkUpReporting l n after = (n ≡ note.Done) × (l.host.phase ≡ Down) × HasMark l.host × (after ≡ with_new_link l (linked_reporting l.host))
After event.Nudge l n after = (n ≡ note.Done) × IsOpening l.host.phase × HasMark l.host × (after ≡ with_host l (nudged l.host))
After (event.Submit receipt) l n after =
    (flight : List InFlight) × (n ≡ note.Done) × (l.host.phase ≡ Open flight) × (length flight < most_in_flight) × HasMark l.host
    × (after ≡ with_host l (submitted l.host flight receipt))
After (event.Ask kind) l n after = (n ≡ note.Done) × (l.host.phase ≡ Open []) × (after ≡ with_host l (asked l.host kind))
After event.AskReports l n after = (n ≡ note.Done) × (l.host.phase ≡ Open []) × (after ≡ with_host l (reports_asked l.host))
After (event.Move k) l n after = (count : ℕ) × (n ≡ note.Moved count) × (count ≡ min k (length l.host.out)) × (after ≡ moved l count)
After (event.Deliver k) l n after =
    (fed : Fed) × (printer : PrinterView) × (n ≡ note.Fed fed) × Feeds l.printer (take k (first_link l)) fed.consumed fed.stop printer × (fed.stop ≢ stop.Memory)
    × (after ≡ left_by fed.stop (delivered l fed.consumed printer))
After event.HandOver l n after = (what : Handed) × (n ≡ note.Handed what) × HandsOver l what after
After (event.Answer k) l n after =
    (events : List HostEvent) × (consumed : ℕ) × (host : HostView) × (n ≡ note.Heard consumed (told_at (last_of events) consumed))
    × HearsAll l.host (take k l.coming) events consumed host × (after ≡ heard_to (last_of events) l consumed host)
After event.PrinterLeaves l n after = (n ≡ note.Done) × (after ≡ without_first l)
After event.PrinterRestart l n after = (printer : PrinterView) × (n ≡ note.Done) × Restarted l.printer printer × (after ≡ without_first (with_printer l printer))
After event.HostDrops l n after = (n ≡ note.Done) × (after ≡ off_link (with_host l (hung_up l.host.phase l.host)))
After (event.HostRestart f) l n after = (n ≡ note.Done) × (l.host.next ≤ f) × (after ≡ off_link (with_host l (restarted l.host f)))
After (event.SetCondition condition) l n after = (n ≡ note.Done) × (after ≡ with_printer l (conditioned l.printer condition))

-- ## Refusals

-- Why an event is refused. A host's refusals are those of its machine; out of memory comes for a new link, for bytes that go onto the
-- live link, where there are bytes to be fed to the printer, and for an answer that goes on its way to the host.
abbrev pub Refuses : Event → LineView → Refusal → Type 0
Refuses event.LinkUp l why = (e : HostError) × (why ≡ of_host e) × RefusesLinkUp e l.host
Refuses event.LinkUpReporting l why = (e : HostError) × (why ≡ of_host e) × RefusesLinkUp e l.host
Refuses event.Nudge l why = (e : HostError) × (why ≡ of_host e) × RefusesNudge e l.host
Refuses (event.Submit receipt) l why = (e : HostError) × (why ≡ of_host e) × RefusesSubmit e l.host
Refuses (event.Ask kind) l why = (e : HostError) × (why ≡ of_host e) × RefusesAsk e l.host
Refuses event.AskReports l why = (e : HostError) × (why ≡ of_host e) × RefusesAsk e l.host
Refuses (event.Move k) l why = (why ≡ refusal.Memory) × (l.live ≢ None)
Refuses (event.Deliver k) l why = (why ≡ refusal.Memory) × (take k (first_link l) ≢ [])
Refuses event.HandOver l why = (why ≡ refusal.Memory) × (l.printer.waiting ≢ []) × (l.ended ≡ []) × (l.live ≢ None)
Refuses (event.HostRestart f) l why = (why ≡ refusal.MarkReused l.host.next) × (f < l.host.next)
Refuses _ l why = ⊥

-- What a refusal leaves: the line as it was; but where an allocation failed for bytes, fewer of them moved, or the printer
-- was fed up to the one that failed, as if no more of them had been there to be delivered.
abbrev pub Leaves : Event → LineView → LineView → Type 0
Leaves (event.Move k) l after = (fewer : ℕ) × (n : Note) × (fewer < k) × (fewer < length l.host.out) × After (event.Move fewer) l n after
Leaves (event.Deliver k) l after =
    (fewer : ℕ) × (n : Note) × (fewer < k) × After (event.Deliver fewer) l n after
    × ((printer : PrinterView) × Feeds l.printer (take k (first_link l)) fewer stop.Memory printer × (after ≡ delivered l fewer printer))
Leaves _ l after = after ≡ l

-- A receipt that was to be printed comes back.
abbrev pub receipt_of : Event → Option (List Command)
receipt_of (event.Submit receipt) = Some receipt
receipt_of _ = None

pub record IsRefused (e : Event) (l : LineView) (refused : Refused) (after : LineView) : Type 0 where
  pub reason : Refuses e l refused.why
  pub line : Leaves e l after
  pub receipt : refused.receipt ≡ receipt_of e
