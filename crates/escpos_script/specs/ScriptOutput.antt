-- What `play` prints for an event.
use Rattle.std.specs.Prelude.{ℕ, List, [], ◌∷◌, ◌++◌, codes, decimal}
use Rattle.std.specs.List.{flat_map}
use Rattle.escpos_command.specs.declared.bytes.TheConstants.{LF}
use Rattle.escpos_command.specs.Places as places
use Rattle.escpos_host.specs.declared.host.HostEvent.{HostEvent}
use Rattle.escpos_host.specs.declared.host.HostEvent.TheVariants as heard
use Rattle.escpos_link.specs.declared.event.Handed.{Handed}
use Rattle.escpos_link.specs.declared.event.Handed.TheVariants as handed
use Rattle.escpos_link.specs.declared.event.Note.{Note}
use Rattle.escpos_link.specs.declared.event.Note.TheVariants as note
use Rattle.escpos_link.specs.declared.event.Refusal.{Refusal}
use Rattle.escpos_link.specs.Refusals.{least_of, name_of, refusal_number}
use Rattle.escpos_printer.specs.declared.printer.FeedStop.{FeedStop}
use Rattle.escpos_printer.specs.declared.printer.FeedStop.TheVariants as stop
use Rattle.escpos_job_parts.specs.declared.lines.TheConstants.{SPACE}
use Rattle.escpos_job_parts.specs.Lines.{byte_value}
use Rattle.escpos_job_parts.specs.Refusal.{place_text}

-- Why feeding stopped.
abbrev pub stop_text : FeedStop → List ℕ
stop_text stop.All = codes "all"
stop_text stop.AnswersFull = codes "full"
stop_text stop.Offline = codes "offline"
stop_text (stop.Fault at why) = codes "fault " ++ decimal (places.reason_number why) ++ SPACE ∷ [] ++ places.reason_name why
stop_text stop.Memory = codes "memory"

-- What became of an answer.
abbrev pub handed_text : Handed → List ℕ
handed_text handed.None = codes "none"
handed_text handed.Lost = codes "lost"
handed_text handed.On = codes "on"

-- The last event that was heard. An answer to a mark of an older link is none of this one's.
abbrev pub heard_text : HostEvent → List ℕ
heard_text heard.None = codes "none"
heard_text (heard.Late id) = codes "none"
heard_text heard.Opened = codes "opened"
heard_text (heard.Recorded number) = codes "recorded " ++ decimal number
heard_text (heard.Status byte) = codes "status" ++ byte_value byte
heard_text (heard.Condition block) = codes "condition" ++ flat_map byte_value block
heard_text (heard.BadAnswer at) = codes "bad"

-- The line of an event.
abbrev pub event_line : Note → List ℕ
event_line note.Done = codes "ok" ++ LF ∷ []
event_line (note.Moved count) = codes "moved " ++ decimal count ++ LF ∷ []
event_line (note.Fed fed) = codes "fed " ++ decimal fed.consumed ++ SPACE ∷ [] ++ stop_text fed.stop ++ LF ∷ []
event_line (note.Handed what) = codes "handed " ++ handed_text what ++ LF ∷ []
event_line (note.Heard consumed last) = codes "heard " ++ decimal consumed ++ SPACE ∷ [] ++ heard_text last ++ LF ∷ []

-- The line of an event that is refused: the number and the name of the reason, and the least number that a mark may have.
abbrev pub refused_line : Refusal → List ℕ
refused_line why = codes "refused " ++ decimal (refusal_number why) ++ SPACE ∷ [] ++ name_of why ++ place_text (least_of why) ++ LF ∷ []

-- The line for a line that isn't one of a script, by its number from 1.
abbrev pub unreadable_line : ℕ → List ℕ
unreadable_line number = codes "line " ++ decimal number ++ codes " unreadable\n"

-- The last line: how many receipts are recorded.
abbrev pub records_line : ℕ → List ℕ
records_line count = codes "records " ++ decimal count ++ LF ∷ []
