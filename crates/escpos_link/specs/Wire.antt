-- A wire: a printer, and all that lies between it and a host, which is somewhere else. With the host it is a line. What the
-- host does to the wire is said here; what happens at the printer's end is an event of the event table, the same whatever
-- host is at the other end.
use Rattle.std.specs.Prelude.{ℕ, [], ◌++◌, List, drop, Option, Some, None, option_to_list}
use Rattle.escpos_printer.specs.Feeds.{PrinterView}
use Rattle.escpos_host.specs.Machine.{HostView}
use Rattle.escpos_link.specs.declared.event.Event.{Event}
use Rattle.escpos_link.specs.declared.event.Note.{Note}
use Rattle.escpos_link.specs.declared.event.Refused.{Refused}
use Rattle.escpos_link.specs.EventTable.{After, IsRefused, ended_fed, live_fed, live_left, put_on}
use Rattle.escpos_link.specs.Line.{LineView}

-- The model of a wire: that of a line, without the host.
pub record WireView : Type 0 where
  pub printer : PrinterView
  pub ended : List (List ℕ)
  pub live : Option (List ℕ)
  pub coming : List ℕ

-- The line of a host and a wire, and the wire of a line.
abbrev pub line_of : HostView → WireView → LineView
line_of host w = record { host = host; printer = w.printer; ended = w.ended; live = w.live; coming = w.coming }

abbrev pub wire_of : LineView → WireView
wire_of l = record { printer = l.printer; ended = l.ended; live = l.live; coming = l.coming }

-- ## The host's end

-- A new link, with nothing on it, is the live one.
abbrev pub with_link : WireView → WireView
with_link w = record { printer = w.printer; ended = w.ended; live = Some []; coming = w.coming }

-- The bytes are put onto the live link, or lost where there is none.
abbrev pub with_bytes : WireView → List ℕ → WireView
with_bytes w bytes = record { printer = w.printer; ended = w.ended; live = put_on w.live bytes; coming = w.coming }

-- The host has heard this many of the bytes on their way to it.
abbrev pub heard_from : WireView → ℕ → WireView
heard_from w count = record { printer = w.printer; ended = w.ended; live = w.live; coming = drop count w.coming }

-- The host has given its link up: what was put on it stays, and nothing is on its way to the host.
abbrev pub given_up : WireView → WireView
given_up w = record { printer = w.printer; ended = w.ended ++ option_to_list w.live; live = None; coming = [] }

-- ## The printer's end

-- The first bytes of the first link reached the printer.
abbrev pub fed_to : WireView → ℕ → PrinterView → WireView
fed_to w count printer = record { printer = printer; ended = ended_fed w.ended count; live = live_fed w.ended w.live count; coming = w.coming }

-- The printer has left the first link.
abbrev pub without_first_link : WireView → WireView
without_first_link w = record { printer = w.printer; ended = drop 1 w.ended; live = live_left w.ended w.live; coming = w.coming }

-- The event happened, or was refused, whatever host is at the other end.
abbrev pub AfterOnWire : Event → WireView → Note → WireView → Type 0
AfterOnWire e w n after = (host : HostView) → After e (line_of host w) n (line_of host after)

abbrev pub IsRefusedOnWire : Event → WireView → Refused → WireView → Type 0
IsRefusedOnWire e w refused after = (host : HostView) → IsRefused e (line_of host w) refused (line_of host after)
