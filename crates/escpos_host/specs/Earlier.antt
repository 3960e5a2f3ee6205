-- A host that had other records before its own. No call and no answer looks at a record: a host only adds to them, and counts
-- them. So it does the same, and the records that it makes have higher numbers.
use Rattle.std.specs.Prelude.{ℕ, ◌+◌, List, ◌++◌}
use Rattle.escpos_command.specs.declared.command.Command.{Command}
use Rattle.escpos_host.specs.declared.host.HostEvent.{HostEvent}
use Rattle.escpos_host.specs.declared.host.HostEvent.TheVariants as event
use Rattle.escpos_host.specs.Machine.{HostView}

-- The host with these records before its own.
abbrev pub with_earlier : List (List Command) → HostView → HostView
with_earlier earlier h = record { phase = h.phase; out = h.out; half = h.half; next = h.next; heard = h.heard; records = earlier ++ h.records; left = h.left }

-- The event as a host hears it that has this many more records before its own.
abbrev pub shifted : ℕ → HostEvent → HostEvent
shifted count (event.Recorded number) = event.Recorded (count + number)
shifted count e = e
