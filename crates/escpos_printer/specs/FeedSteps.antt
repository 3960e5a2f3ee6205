-- What a printer asks about a byte before it takes it. Only private clauses, invariants and proofs use this definition.
use Rattle.std.specs.Prelude.{Bool, true, false, Option, Some, None, if◌then◌else◌}
use Rattle.escpos_decode.specs.declared.decoder.Ahead.{Ahead}
use Rattle.escpos_decode.specs.declared.decoder.Ahead.TheVariants as ahead
use Rattle.escpos_printer.specs.declared.printer.FeedStop.{FeedStop}
use Rattle.escpos_printer.specs.declared.printer.FeedStop.TheVariants.{AnswersFull, Offline}

-- Why this command may not be completed now. Offline only status requests are completed; while 16 answers wait, besides a block,
-- no status request and no mark.
abbrev pub obstacle : Ahead → Bool → Bool → Option FeedStop
obstacle ahead.Nothing offline full = None
obstacle ahead.Status offline full = if full then Some AnswersFull else None
obstacle ahead.Mark offline full = if offline then Some Offline else if full then Some AnswersFull else None
obstacle ahead.Other offline full = if offline then Some Offline else None

abbrev pub is_command : Ahead → Bool
is_command ahead.Nothing = false
is_command _ = true
