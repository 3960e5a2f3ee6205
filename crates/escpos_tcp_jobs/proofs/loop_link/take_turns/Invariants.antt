use Rattle.std.proofs.Common.{length}
use Rattle.escpos_tcp_jobs.proofs.loop_link.take_turns.Given as goal

-- each turn takes a byte out, and none comes to them
abbrev pub decreases-loop-host : goal.decreases-loop-host
decreases-loop-host l = length l.host.out
