use Rattle.std.proofs.Common.{◌≤◌, ◌-◌, take, length}
use Rattle.escpos_passed.proofs.Turns.{Turn}
use Rattle.escpos_passed.proofs.reading.read_tokens.Given as goal

-- the bytes so far are read, and their tokens taken and counted
abbrev pub invariant-loop-at : goal.invariant-loop-at
invariant-loop-at g l = record {
  turn : Turn l.pass (g.C.TokenConsumer.accepted (l.fn.consumer, l.fn.output) (l.consumer, l.output)) (take l.at l.bytes) l.decoder l.start l.passed;
  inside : l.at ≤ length l.bytes;
}

abbrev pub decreases-loop-at : goal.decreases-loop-at
decreases-loop-at g l = length l.bytes - l.at
