-- What hearing the bytes of answers does. It speaks of a whole piece; the code takes it byte by byte.
use Rattle.std.specs.Prelude.{ℕ, ◌≡◌, ◌≢◌, ◌+◌, ◌<◌, ◌≤◌, ◌⊎◌, List, [], ◌∷◌, ◌++◌, length, take, drop, slice_index}
use Rattle.std.specs.List.{AllByRecursion}
use Rattle.escpos_command.specs.declared.answer.Answer.{Answer}
use Rattle.escpos_command.specs.declared.answer.Answer.TheVariants as answer
use Rattle.escpos_command.specs.Answers.{AnswerSpells, AreWholeAnswers, HalfAnswer, Hears, ViableAnswer}
use Rattle.escpos_command.specs.Digits.{mark_count}
use Rattle.escpos_host.specs.Counted.{id_of}
use Rattle.escpos_host.specs.declared.host.HostEvent.{HostEvent}
use Rattle.escpos_host.specs.declared.host.HostEvent.TheVariants as event
use Rattle.escpos_host.specs.Machine.{HostView, InFlight, Phase, Down, Opening, Open, gone_down, receipts_of}

-- Of the marks with numbers from the first up to the next one, which isn't included, this one has the id.
abbrev pub IsNumberOf : ℕ → ℕ → List ℕ → ℕ → Type 0
IsNumberOf first next id n = (first ≤ n) × (n < next) × (n < first + mark_count) × (id_of n ≡ id)

-- The id is that of a mark with a number from the first up to the next one.
abbrev pub IsMarkFrom : ℕ → ℕ → List ℕ → Type 0
IsMarkFrom first next id = (n : ℕ) × IsNumberOf first next id n

-- The id is that of the closing mark of one of these receipts, with a number from this one on.
abbrev pub IsClosing : ℕ → List InFlight → List ℕ → Type 0
IsClosing heard [] id = ⊥
IsClosing heard (p ∷ ps) id = ((heard ≤ p.number) × (p.mark ≡ id)) ⊎ IsClosing heard ps id

-- The answer to the mark with this id is one that a host in this phase ignores. Before an opening mark is answered it ignores none.
abbrev pub IgnoresMark : Phase → ℕ → List ℕ → Type 0
IgnoresMark Down next id = ⊥
IgnoresMark (Opening first) next id = ⊥
IgnoresMark (Open flight) next id = IsClosing 0 flight id → ⊥

abbrev pub Ignores : Phase → ℕ → Answer → Type 0
Ignores phase next (answer.Status b) = ⊥
Ignores phase next (answer.Condition block) = ⊥
Ignores phase next (answer.Mark id) = IgnoresMark phase next id

-- The host with another half answer.
abbrev pub with_half : HostView → List ℕ → HostView
with_half h half = record { phase = h.phase; out = h.out; half = half; next = h.next; heard = h.heard; records = h.records; left = h.left }

-- The link is open: the opening mark with this number was answered.
abbrev pub opened : HostView → ℕ → HostView
opened h n = record { phase = Open []; out = h.out; half = h.half; next = h.next; heard = n + 1; records = h.records; left = h.left }

-- The mark of an older link with this number was answered.
abbrev pub heard_late : HostView → ℕ → HostView
heard_late h n = record { phase = h.phase; out = h.out; half = h.half; next = h.next; heard = n + 1; records = h.records; left = h.left }

-- Of these receipts this is the first one whose closing mark has the id, and a number from this one on; these come before it, and
-- the others after it.
pub record IsFirstWith (heard : ℕ) (id : List ℕ) (all before : List InFlight) (p : InFlight) (others : List InFlight) : Type 0 where
  pub all_are : all ≡ before ++ p ∷ others
  pub is_out : heard ≤ p.number
  pub mark : p.mark ≡ id
  pub first : IsClosing heard before id → ⊥

-- The receipts up to the one whose closing mark was answered are recorded, and the others stay in flight; or they were left, and the
-- others still are.
abbrev pub recorded : HostView → List InFlight → InFlight → List InFlight → HostView
recorded h before last others = record {
  phase = Open others;
  out = h.out;
  half = h.half;
  next = h.next;
  heard = last.number + 1;
  records = h.records ++ receipts_of (before ++ last ∷ []);
  left = h.left;
}

abbrev pub recorded_late : HostView → List InFlight → InFlight → List InFlight → HostView
recorded_late h before last others = record {
  phase = h.phase;
  out = h.out;
  half = h.half;
  next = h.next;
  heard = last.number + 1;
  records = h.records ++ receipts_of (before ++ last ∷ []);
  left = others;
}

-- The answer to the mark with this id records receipts in flight, or before an opening mark is answered such as are left: the
-- last one has this number.
pub record RecordsUpTo (h : HostView) (id : List ℕ) (number : ℕ) (after : HostView) : Type 0 where
  pub before : List InFlight
  pub last : InFlight
  pub others : List InFlight
  pub number_is : number ≡ length h.records + length before
  pub way :
      ((flight : List InFlight) × (h.phase ≡ Open flight) × IsFirstWith 0 id flight before last others × (after ≡ recorded h before last others))
      ⊎ ((first : ℕ) × (h.phase ≡ Opening first) × (IsMarkFrom first h.next id → ⊥) × IsFirstWith h.heard id h.left before last others
      × (after ≡ recorded_late h before last others))

-- The answer to the mark with this id, which is of an older link, is told. If it is one that could still be answered, it is answered
-- now; and nothing else changes.
abbrev pub IsToldLate : HostView → ℕ → List ℕ → HostView → Type 0
IsToldLate h first id after =
    ((n : ℕ) × IsNumberOf h.heard first id n × (after ≡ heard_late h n)) ⊎ ((IsMarkFrom h.heard first id → ⊥) × (after ≡ h))

-- What a whole answer does to a host that has a link, and the event that it brings.
abbrev pub Turns : HostView → Answer → HostEvent → HostView → Type 0
Turns h a event.None after = Ignores h.phase h.next a × (after ≡ h)
Turns h a event.Opened after =
    (first : ℕ) × (n : ℕ) × (id : List ℕ) × (h.phase ≡ Opening first) × (a ≡ answer.Mark id) × IsNumberOf first h.next id n × (after ≡ opened h n)
Turns h a (event.Recorded number) after = (id : List ℕ) × (a ≡ answer.Mark id) × RecordsUpTo h id number after
Turns h a (event.Late id) after =
    (first : ℕ) × (h.phase ≡ Opening first) × (a ≡ answer.Mark id) × (IsMarkFrom first h.next id → ⊥) × (IsClosing h.heard h.left id → ⊥)
    × IsToldLate h first id after
Turns h a (event.Status byte) after = (a ≡ answer.Status byte) × (after ≡ h)
Turns h a (event.Condition block) after = (a ≡ answer.Condition block) × (after ≡ h)
Turns h a (event.BadAnswer place) after = ⊥

-- What one more byte does to the host: it continues an answer, completes one, or fits none.
abbrev pub Grows : HostView → ℕ → HostEvent → HostView → Type 0
Grows h byte event.None after = (after ≡ with_half h (h.half ++ byte ∷ [])) × HalfAnswer (h.half ++ byte ∷ [])
Grows h byte _ after = ⊥

abbrev pub Misfits : HostView → ℕ → ℕ → HostEvent → HostView → Type 0
Misfits h byte at (event.BadAnswer place) after = (place ≡ at) × (ViableAnswer (h.half ++ byte ∷ []) → ⊥) × (after ≡ gone_down h)
Misfits h byte at _ after = ⊥

abbrev pub HearsByte : HostView → ℕ → ℕ → HostEvent → HostView → Type 0
HearsByte h byte at e after =
    Grows h byte e after ⊎ Misfits h byte at e after ⊎ ((a : Answer) × AnswerSpells a (h.half ++ byte ∷ []) × Turns (with_half h []) a e after)

-- These bytes were read as answers, all of which are ignored, and this half answer.
pub record Passed (h : HostView) (bytes : List ℕ) (half : List ℕ) : Type 0 where
  pub ignored : List Answer
  pub hears : Hears (h.half ++ bytes) ignored half
  pub each : AllByRecursion (Ignores h.phase h.next) ignored

-- How many bytes are taken at an event: a byte that ends the link isn't taken.
abbrev pub taken_at : HostEvent → ℕ → ℕ
taken_at (event.BadAnswer place) at = at
taken_at _ at = at + 1

-- What hearing a piece does, for a host that has a link: all of it passed; or the bytes before some place did, and the byte
-- there brought this event.
abbrev pub IsHeard : HostView → List ℕ → ℕ → HostEvent → HostView → Type 0
IsHeard h bytes consumed e after =
    ((e ≡ event.None) × (consumed ≡ length bytes) × Passed h bytes after.half × (after ≡ with_half h after.half))
    ⊎ ((at : ℕ) × (half : List ℕ) × (at < length bytes) × (e ≢ event.None) × (consumed ≡ taken_at e at) × Passed h (take at bytes) half
    × HearsByte (with_half h half) (slice_index bytes at) at e after)

-- The last of the events, None where there is none.
abbrev pub last_of : List HostEvent → HostEvent
last_of [] = event.None
last_of (e ∷ []) = e
last_of (e ∷ f ∷ es) = last_of (f ∷ es)

-- The event ends the link.
abbrev pub EndsLink : HostEvent → Type 0
EndsLink (event.BadAnswer place) = Unit {0}
EndsLink _ = ⊥

-- What hearing all of a piece does, event after event, for a host that has a link: up to its end, or up to an event that
-- ends the link. The place of a byte that fits no answer is counted from the start of that event's own part of the piece.
abbrev pub HearsInTurn : HostView → List ℕ → List HostEvent → ℕ → HostView → Type 0
HearsInTurn h bytes [] consumed after = IsHeard h bytes consumed event.None after
HearsInTurn h bytes (e ∷ es) consumed after =
    (count : ℕ) × (next : HostView) × (e ≢ event.None) × IsHeard h bytes count e next
    × ((EndsLink e × (es ≡ []) × (consumed ≡ count) × (after ≡ next))
    ⊎ ((EndsLink e → ⊥) × ((rest : ℕ) × (consumed ≡ count + rest) × HearsInTurn next (drop count bytes) es rest after)))

-- The same for any host. With no link all bytes are taken and ignored.
abbrev pub HearsAll : HostView → List ℕ → List HostEvent → ℕ → HostView → Type 0
HearsAll h bytes events consumed after =
    ((h.phase ≡ Down) × (events ≡ []) × (consumed ≡ length bytes) × (after ≡ h)) ⊎ ((h.phase ≢ Down) × HearsInTurn h bytes events consumed after)

-- What hearing a piece leaves where the half answer, the piece and the bytes after it are whole answers together: either
-- the host is off its link, by the last event; or it has heard all of the piece, and its half answer and the bytes after
-- the piece are whole answers.
pub record IsOff (events : List HostEvent) (after : HostView) : Type 0 where
  pub ends : EndsLink (last_of events)
  pub phase : after.phase ≡ Down
  pub half : after.half ≡ []

pub record GoesOn (bytes more : List ℕ) (events : List HostEvent) (consumed : ℕ) (after : HostView) : Type 0 where
  pub on : EndsLink (last_of events) → ⊥
  pub all : consumed ≡ length bytes
  pub up : after.phase ≢ Down
  pub whole : AreWholeAnswers (after.half ++ more)
