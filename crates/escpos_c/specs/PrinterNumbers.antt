-- The numbers in which C is told of a printer.
use Rattle.std.specs.Prelude.{ℕ}
use Rattle.escpos_command.specs.Places.{reason_number}
use Rattle.escpos_printer.specs.declared.printer.FeedStop.{FeedStop}
use Rattle.escpos_printer.specs.declared.printer.FeedStop.TheVariants.{All, AnswersFull, Offline, Fault, Memory}
use Rattle.escpos_c.specs.declared.refusal.TheConstants.{NO_REASON, NO_PLACE}

abbrev pub stop_kind : FeedStop → ℕ
stop_kind All = 0
stop_kind AnswersFull = 1
stop_kind Offline = 2
stop_kind (Fault at why) = 3
stop_kind Memory = 4

abbrev pub stop_reason : FeedStop → ℕ
stop_reason (Fault at why) = reason_number why
stop_reason _ = NO_REASON

abbrev pub stop_place : FeedStop → ℕ
stop_place (Fault at why) = at
stop_place _ = NO_PLACE
