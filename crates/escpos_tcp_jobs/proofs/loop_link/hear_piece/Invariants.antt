use Rattle.std.proofs.Common.{◌≤◌, length}
use Rattle.escpos_tcp_jobs.proofs.loop_link.hear_piece.Given as goal

-- nothing more is to be said
abbrev pub invariant-loop : goal.invariant-loop
invariant-loop l = record { quiet : length l.host.out ≤ length l.fn.host.out }
