use Rattle.std.proofs.Common.{◌-◌, ◌≡◌, ◌≤◌, ◌⊎◌, ◌++◌, [], List, ℕ, length}
use Rattle.std.specs.Io.KnownBytes.{Consumes}
use Rattle.escpos_command.specs.Answers.{HalfAnswer}
use Rattle.escpos_tcp_jobs.specs.PrinterStatus.{ArePassedOver}
use Rattle.escpos_tcp_jobs.proofs.printer_status.next_status.Given as goal

-- what was read so far are answers that are passed over, and what the reader of answers holds
abbrev pub invariant-loop-read : goal.invariant-loop-read
invariant-loop-read g l = record {
  room : length l.piece ≡ 1;
  so_far : (before : List ℕ) × ArePassedOver before × Consumes (g.R.ByteIn.to_come l.fn.reader) (g.R.ByteIn.to_come l.reader) (before ++ l.answers)
      × (length (before ++ l.answers) ≡ l.read);
  half : (l.answers ≡ []) ⊎ HalfAnswer l.answers;
  within : l.read ≤ 16384;
}

abbrev pub decreases-loop-read : goal.decreases-loop-read
decreases-loop-read g l = 16384 - l.read
