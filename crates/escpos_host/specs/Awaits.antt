-- What the parts of `send_link` do, for a host that has a link: hearing answers up to an event that isn't overlooked,
-- reading them until there is one, and putting out what the host has to say. Only private clauses, invariants and proofs use these
-- definitions.
use Rattle.std.specs.Prelude.{Bool, true, false, ℕ, ◌≡◌, ◌≢◌, ◌+◌, ◌<◌, ◌≤◌, ◌-◌, ◌⊎◌, List, [], ◌∷◌, ◌++◌, length, take, drop, slice_index, Option}
use Rattle.std.specs.List.{AllByRecursion}
use Rattle.std.specs.Io.KnownBytes.{Appends, Consumes}
use Rattle.escpos_command.specs.declared.answer.Answer.{Answer}
use Rattle.escpos_command.specs.declared.answer.Answer.TheVariants as answer
use Rattle.escpos_command.specs.Answers.{Hears}
use Rattle.escpos_command.specs.CommandTable.{row, spell}
use Rattle.escpos_host.specs.declared.host.HostError.{HostError}
use Rattle.escpos_host.specs.declared.host.HostError.TheVariants as error
use Rattle.escpos_host.specs.declared.host.HostEvent.{HostEvent}
use Rattle.escpos_host.specs.declared.host.HostEvent.TheVariants as event
use Rattle.escpos_host.specs.declared.send.Awaited.{Awaited}
use Rattle.escpos_host.specs.declared.send.SendFault.{SendFault}
use Rattle.escpos_host.specs.declared.send.SendFault.TheVariants as fault
use Rattle.escpos_host.specs.Heard.{HearsByte, IsClosing, IsMarkFrom, taken_at}
use Rattle.escpos_host.specs.Machine.{HostView, Phase, Down, Open, Opening, HasMark, ask_reports, closed_by, gone_down, mark_limit}
use Rattle.escpos_host.specs.Says.{marks_from}
use Rattle.escpos_host.specs.Sends.{Call, Closed, Fails, Opened, given_up, most_in_piece, opening_bytes, receipt_bytes, recorded_by}

-- ## Opening

-- The host whose link is up, with this many opening marks put out.
abbrev pub dialled : HostView → ℕ → HostView
dialled h count = record { phase = Opening h.next; out = spell (marks_from count h.next); half = []; next = h.next + count; heard = h.heard; records = h.records; left = h.left }

-- The same, with a request for automatic status before them.
abbrev pub dialled_reporting : HostView → ℕ → HostView
dialled_reporting h count =
    record { phase = Opening h.next; out = row ask_reports ++ spell (marks_from count h.next); half = []; next = h.next + count; heard = h.heard; records = h.records; left = h.left }

abbrev pub dialled_by : Bool → HostView → ℕ → HostView
dialled_by true h count = dialled_reporting h count
dialled_by false h count = dialled h count

-- The host whose link was given up after this many opening marks.
abbrev pub given_up_after : HostView → ℕ → HostView
given_up_after h count = record { phase = Down; out = []; half = []; next = h.next + count; heard = h.heard; records = h.records; left = h.left }

-- Why this many opening marks can't be put out.
abbrev pub RefusesOpening : HostError → HostView → ℕ → HostView → Type 0
RefusesOpening error.AlreadyUp h openings after = (h.phase ≢ Down) × (after ≡ h)
RefusesOpening error.MarksUsedUp h openings after =
    (h.phase ≡ Down)
    × (((mark_limit h ≤ h.next) × (after ≡ h)) ⊎ ((used : ℕ) × (0 < used) × (used < openings) × (h.next + used ≡ mark_limit h) × (after ≡ given_up_after h used)))
RefusesOpening error.Memory h openings after =
    (h.phase ≡ Down) × HasMark h
    × ((after ≡ h) ⊎ ((used : ℕ) × (0 < used) × (used < openings) × (h.next + used < mark_limit h) × (after ≡ given_up_after h used)))
RefusesOpening _ h openings after = ⊥

-- ## Hearing

-- The mark with this id is none of those whose answers a host in this phase waits for.
abbrev pub IsOtherMark : Phase → ℕ → List ℕ → Type 0
IsOtherMark Down next id = ⊥
IsOtherMark (Opening first) next id = IsMarkFrom first next id → ⊥
IsOtherMark (Open flight) next id = IsClosing 0 flight id → ⊥

-- An answer that isn't waited for: to another mark, a status or a condition.
abbrev pub IsOverlooked : Phase → ℕ → Answer → Type 0
IsOverlooked phase next (answer.Status b) = Unit {0}
IsOverlooked phase next (answer.Condition block) = Unit {0}
IsOverlooked phase next (answer.Mark id) = IsOtherMark phase next id

-- The host with another half answer, and with marks of older links answered up to another one.
abbrev pub waited : HostView → List ℕ → ℕ → HostView
waited h half heard = record { phase = h.phase; out = h.out; half = half; next = h.next; heard = heard; records = h.records; left = h.left }

-- These bytes were read as such answers, and this half answer.
pub record Overlooked (h : HostView) (bytes half : List ℕ) : Type 0 where
  pub answers : List Answer
  pub hears : Hears (h.half ++ bytes) answers half
  pub each : AllByRecursion (IsOverlooked h.phase h.next) answers

-- An event that a call overlooks: a status, a condition, or the answer to a mark of an older link.
abbrev pub IsOverlookedEvent : HostEvent → Type 0
IsOverlookedEvent (event.Late id) = Unit {0}
IsOverlookedEvent (event.Status byte) = Unit {0}
IsOverlookedEvent (event.Condition block) = Unit {0}
IsOverlookedEvent _ = ⊥

-- An event that isn't overlooked.
abbrev pub IsStop : HostEvent → Type 0
IsStop event.None = ⊥
IsStop (event.Late id) = ⊥
IsStop (event.Status byte) = ⊥
IsStop (event.Condition block) = ⊥
IsStop _ = Unit {0}

-- What hearing a piece up to such an event does.
abbrev pub HearsOut : HostView → List ℕ → ℕ → HostEvent → HostView → Type 0
HearsOut h bytes consumed e after =
    ((e ≡ event.None) × (consumed ≡ length bytes) × Overlooked h bytes after.half × (after ≡ waited h after.half after.heard))
    ⊎ ((at : ℕ) × (place : ℕ) × (half : List ℕ) × (heard : ℕ) × (at < length bytes) × IsStop e × (consumed ≡ taken_at e at) × Overlooked h (take at bytes) half
    × HearsByte (waited h half heard) (slice_index bytes at) place e after)

-- ## Waiting

-- An event came: the bytes before the one that brought it were overlooked, and fewer than a piece has come after it.
pub record Brought (h : HostView) (before left : Option (List ℕ)) (piece : List ℕ) (awaited : Awaited) (after : HostView) : Type 0 where
  pub bytes : List ℕ
  pub half : List ℕ
  pub heard_up_to : ℕ
  pub byte : ℕ
  pub place : ℕ
  pub tail : List ℕ
  pub came : Consumes before left (bytes ++ byte ∷ tail)
  pub read : awaited.read ≡ length (bytes ++ byte ∷ tail)
  pub overlooked : Overlooked h bytes half
  pub stop : IsStop awaited.event
  pub hears : HearsByte (waited h half heard_up_to) byte place awaited.event after
  pub short : length tail < most_in_piece
  pub start : awaited.heard ≤ awaited.count
  pub end : awaited.count ≤ length piece
  pub rest : ((at : ℕ) → awaited.event ≢ event.BadAnswer at) → take (awaited.count - awaited.heard) (drop awaited.heard piece) ≡ tail

-- No event came before the reader ended or failed, or before this many bytes were read.
pub record Silent (h : HostView) (before left : Option (List ℕ)) (most : ℕ) (why : SendFault) (after : HostView) : Type 0 where
  pub bytes : List ℕ
  pub came : Consumes before left bytes
  pub few : length bytes ≤ most
  pub long : why ≡ fault.TooLong → length bytes ≡ most
  pub early : (why ≡ fault.Ended) ⊎ (why ≡ fault.ReadFault) ⊎ (why ≡ fault.TimedOut) → length bytes < most
  pub overlooked : Overlooked h bytes after.half
  pub same : after ≡ waited h after.half after.heard

abbrev pub IsSilence : SendFault → Type 0
IsSilence fault.Ended = Unit {0}
IsSilence fault.ReadFault = Unit {0}
IsSilence fault.TimedOut = Unit {0}
IsSilence fault.TooLong = Unit {0}
IsSilence _ = ⊥

-- Why a writer takes no more.
abbrev pub IsBreak : SendFault → Type 0
IsBreak fault.WriteFault = Unit {0}
IsBreak fault.TimedOut = Unit {0}
IsBreak _ = ⊥

-- ## Putting out

-- The host with these bytes to take out.
abbrev pub with_out : HostView → List ℕ → HostView
with_out h out = record { phase = h.phase; out = out; half = h.half; next = h.next; heard = h.heard; records = h.records; left = h.left }

-- ## The two waits of a call

-- The host with its opening marks to take out, and nothing left of an older link.
abbrev pub starting : Call → HostView
starting c =
    record { phase = Opening c.before.next; out = opening_bytes c; half = []; next = c.before.next + c.openings; heard = c.before.heard; records = c.before.records; left = [] }

-- The host once an opening mark is answered, and with the receipt submitted.
abbrev pub ready : Call → List ℕ → ℕ → HostView
ready c half heard = record { phase = Open []; out = []; half = half; next = c.before.next + c.openings; heard = heard; records = c.before.records; left = [] }

abbrev pub sending : Call → List ℕ → ℕ → HostView
sending c half heard = record {
  phase = Open (closed_by c.receipt (c.before.next + c.openings) ∷ []);
  out = receipt_bytes c;
  half = half;
  next = c.before.next + c.openings + 1;
  heard = heard;
  records = c.before.records;
  left = [];
}

-- The first wait ends in an answer to an opening mark.
pub record Opens (c : Call) (before left put_before put_after : Option (List ℕ)) (count : ℕ) (after : HostView) : Type 0 where
  pub bytes : List ℕ
  pub half : List ℕ
  pub came : Consumes before left bytes
  pub read : count ≡ length bytes
  pub put : Appends put_before put_after (opening_bytes c)
  pub opened : Opened c bytes half
  pub same : after ≡ ready c half after.heard

-- The second wait ends in the answer to the closing mark; before it these bytes were read.
pub record Closes (c : Call) (early : List ℕ) (before left put_before put_after : Option (List ℕ)) (most number : ℕ) (after : HostView) : Type 0 where
  pub bytes : List ℕ
  pub came : Consumes before left bytes
  pub few : length bytes ≤ most
  pub put : Appends put_before put_after (receipt_bytes c)
  pub closed : Closed c (early ++ bytes)
  pub place : number ≡ length c.before.records
  pub same : after ≡ recorded_by c

-- A wait ends in another way; before it these bytes were read, and these were said.
pub record Stops (c : Call) (early said : List ℕ) (before left put_before put_after : Option (List ℕ)) (most : ℕ) (why : SendFault) (used : ℕ) : Type 0 where
  pub bytes : List ℕ
  pub out : List ℕ
  pub came : Consumes before left bytes
  pub few : length bytes ≤ most
  pub put : Appends put_before put_after out
  pub fails : (heard : ℕ) → Fails c why (early ++ bytes) (said ++ out) (given_up c used heard)

-- The host with marks answered up to another one.
abbrev pub with_heard : HostView → ℕ → HostView
with_heard h heard = record { phase = h.phase; out = h.out; half = h.half; next = h.next; heard = heard; records = h.records; left = h.left }

-- The link is down, or is to be given up: what is left then doesn't depend on which, but for the marks that were answered.
abbrev pub Lost : HostView → HostView → Type 0
Lost h after = (after ≡ with_heard (gone_down h) after.heard) ⊎ ((after.phase ≢ Down) × (gone_down after ≡ with_heard (gone_down h) after.heard))
