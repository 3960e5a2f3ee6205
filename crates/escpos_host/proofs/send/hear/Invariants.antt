use Rattle.std.proofs.Common.{◌≡◌, ◌≢◌, ◌≤◌, ◌-◌, take, length}
use Rattle.escpos_host.specs.Awaits.{Overlooked, waited}
use Rattle.escpos_host.specs.Machine.{Down}
use Rattle.escpos_host.proofs.send.hear.Given as goal

-- what was heard so far was overlooked, and changed nothing but the half answer and which marks are answered
abbrev pub invariant-loop-heard : goal.invariant-loop-heard
invariant-loop-heard l = record {
  up : l.fn.host.phase ≢ Down;
  inside : l.taken ≤ length l.bytes;
  overlooked : Overlooked l.fn.host (take l.taken l.bytes) l.host.half;
  same : l.host ≡ waited l.fn.host l.host.half l.host.heard;
}

abbrev pub decreases-loop-heard : goal.decreases-loop-heard
decreases-loop-heard l = length l.bytes - l.taken
