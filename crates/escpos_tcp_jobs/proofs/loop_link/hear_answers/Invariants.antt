use Rattle.std.proofs.Common.{◌≡◌, ◌≤◌, ◌-◌, length}
use Rattle.escpos_tcp_jobs.proofs.loop_link.hear_answers.Given as goal

-- no more was read than was answered
abbrev pub invariant-loop-read : goal.invariant-loop-read
invariant-loop-read g l = record {
  within : l.read ≤ l.count;
  room : length l.piece ≡ 512;
  quiet : length l.host.out ≤ length l.fn.host.out;
}

abbrev pub decreases-loop-read : goal.decreases-loop-read
decreases-loop-read g l = l.count - l.read
