-- How serving one piece of a link ends. Only private clauses, invariants and proofs use these definitions.
use Rattle.std.specs.Prelude.{Option, Some, None}
use Rattle.escpos_printer.specs.declared.printer.FeedStop.{FeedStop}
use Rattle.escpos_printer.specs.declared.printer.FeedStop.TheVariants as stop
use Rattle.escpos_printer.specs.declared.serve.LinkEnd.{LinkEnd}
use Rattle.escpos_printer.specs.declared.serve.LinkEnd.TheVariants.{Ended, TooLong, Fault, Offline, ReadFault, Memory}

-- How a link ends when feeding stops for this reason; None is no end.
abbrev pub end_of : FeedStop → Option LinkEnd
end_of stop.All = None
end_of stop.AnswersFull = None
end_of (stop.Fault at why) = Some (Fault why)
end_of stop.Offline = Some Offline
end_of stop.Memory = Some Memory

-- How a link may end within a piece.
abbrev pub IsWithinPiece : Option LinkEnd → Type 0
IsWithinPiece (Some Ended) = ⊥
IsWithinPiece (Some TooLong) = ⊥
IsWithinPiece (Some ReadFault) = ⊥
IsWithinPiece end = Unit {0}
