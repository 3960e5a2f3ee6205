-- The law of promises: the contract of the function `promise`.
use Rattle.std.specs.Prelude.{ℕ, ◌≡◌, ◌≢◌, ◌+◌, ◌<◌, ◌≤◌, List, [], ◌∷◌, ◌++◌}
use Rattle.escpos_command.specs.declared.command.Command.{Command}
use Rattle.escpos_command.specs.Digits.{mark_count}
use Rattle.escpos_host.specs.Counted.{id_of}
use Rattle.escpos_host.specs.declared.host.HostEvent.TheVariants as heard
use Rattle.escpos_host.specs.Machine.{HostView, InFlight, IsSound, Down, Open}
use Rattle.escpos_link.specs.declared.event.Event.{Event}
use Rattle.escpos_link.specs.declared.event.Event.TheVariants as event
use Rattle.escpos_link.specs.declared.event.Note.{Note}
use Rattle.escpos_link.specs.declared.event.Note.TheVariants as note
use Rattle.escpos_link.specs.EventTable.{After, Leaves, off_link, with_host}
use Rattle.escpos_link.specs.Line.{IsLine, LineView}
use Rattle.escpos_link.specs.Promised.{Promised}
use Rattle.escpos_link.specs.Stands.{Stands}
use Rattle.escpos_link.specs.Trusted.{IsFitting, IsTrusted}
use Rattle.escpos_link.specs.Ways.{flight_of}
use Rattle.escpos_link.specs.Wire.{WireView, given_up, line_of, with_link}

-- The event puts out no mark with this id.
abbrev pub PutsOther : Event → HostView → List ℕ → Type 0
PutsOther event.LinkUp h id = id_of h.next ≢ id
PutsOther event.LinkUpReporting h id = id_of h.next ≢ id
PutsOther event.Nudge h id = id_of h.next ≢ id
PutsOther (event.Submit receipt) h id = id_of h.next ≢ id
PutsOther _ h id = Unit {0}

-- The line with other records, and nothing left.
abbrev pub with_records : LineView → List (List Command) → LineView
with_records l records = record {
  host = record { phase = l.host.phase; out = l.host.out; half = l.host.half; next = l.host.next; heard = l.host.heard; records = records; left = [] };
  printer = l.printer;
  ended = l.ended;
  live = l.live;
  coming = l.coming;
}

-- The law of promises, on lines that can be trusted: a promise may be made before its mark is put out; it holds for the only
-- receipt in flight; it stays after each event that puts out other marks and after each refusal, for any host that is off its
-- link then, and after a link with nothing on it; a late answer to its mark shows that the receipt stands; and then, with no receipt in flight, it may be recorded.
pub record Promising : Type 0 where
  pub made : (l : LineView) (records : List (List Command)) (p : InFlight) (n : ℕ) → IsTrusted l → l.host.next ≤ n → n < l.host.heard + mark_count → p.mark ≡ id_of n → Promised records p l
  pub in_flight : (l : LineView) (p : InFlight) → IsTrusted l → l.host.phase ≡ Open (p ∷ []) → Promised l.host.records p l
  pub stays : (e : Event) (l after : LineView) (n : Note) (records : List (List Command)) (p : InFlight) → IsFitting e → IsSound l.host → IsLine l → After e l n after
      → IsTrusted l → PutsOther e l.host p.mark → Promised records p l → Promised records p after
  pub off : (l : LineView) (host : HostView) (records : List (List Command)) (p : InFlight) → host.half ≡ [] → Promised records p l → Promised records p (off_link (with_host l host))
  pub leaves : (e : Event) (l after : LineView) (records : List (List Command)) (p : InFlight) → IsSound l.host → IsLine l → Leaves e l after → IsTrusted l
      → Promised records p l → Promised records p after
  pub idle : (h : HostView) (w : WireView) (records : List (List Command)) (p : InFlight) → h.phase ≡ Down → IsLine (line_of h w) → IsTrusted (line_of h w)
      → Promised records p (line_of h w) → Promised records p (line_of h (given_up (with_link w)))
  pub late : (l after : LineView) (k consumed : ℕ) (id : List ℕ) (records : List (List Command)) (p : InFlight) → IsLine l → IsTrusted l
      → After (event.Answer k) l (note.Heard consumed (heard.Late id)) after → p.mark ≡ id → Promised records p l
      → Stands after.printer.sheet.line_dots (records ++ p.receipt ∷ []) after.printer.sheet.items
  pub recorded : (l : LineView) (records : List (List Command)) → IsTrusted l → flight_of l.host.phase ≡ [] → Stands l.printer.sheet.line_dots records l.printer.sheet.items
      → IsTrusted (with_records l records)
