-- What one turn of a watched link comes to. Only private clauses, invariants and proofs use these definitions.
use Rattle.std.specs.Prelude.{ℕ, Bool, true, List, [], ◌∷◌, Option, None, Some}
use Rattle.escpos_printer.specs.declared.printer.FeedStop.{FeedStop}
use Rattle.escpos_printer.specs.declared.printer.FeedStop.TheVariants as stop
use Rattle.escpos_printer.specs.declared.serve.LinkEnd.{LinkEnd}
use Rattle.escpos_printer.specs.declared.serve.LinkEnd.TheVariants as ended
use Rattle.escpos_tcp_jobs.specs.declared.watch.Arrival.{Arrival}
use Rattle.escpos_tcp_jobs.specs.declared.watch.Arrival.TheVariants as arrival

-- The bytes that came.
abbrev pub came_by : Arrival → List ℕ
came_by (arrival.Byte b) = b ∷ []
came_by arrival.Nothing = []
came_by arrival.Ended = []
came_by arrival.Failed = []

-- How a link ends when a byte isn't taken for this reason; None where it goes on.
abbrev pub end_of : FeedStop → Option LinkEnd
end_of stop.All = None
end_of stop.AnswersFull = None
end_of stop.Offline = None
end_of (stop.Fault at why) = Some (ended.Fault why)
end_of stop.Memory = Some ended.Memory

-- What is told of the end of a link whose sink has failed, or hasn't.
abbrev pub end_with : Bool → LinkEnd → LinkEnd
end_with true ended.Ended = ended.WriteFault
end_with true ended.ReadFault = ended.WriteFault
end_with failed end = end
