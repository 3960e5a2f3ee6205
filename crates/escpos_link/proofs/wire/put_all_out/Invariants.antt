-- This many bytes have moved.
use Rattle.std.proofs.Common.{◌≤◌, ◌-◌, length}
use Rattle.escpos_link.specs.MoveSteps.{HasMoved}
use Rattle.escpos_link.proofs.wire.put_all_out.Given as goal

abbrev pub invariant-loop-moved : goal.invariant-loop-moved
invariant-loop-moved l = record {
  has_moved : HasMoved l.fn.host l.fn.live l.moved l.host l.live;
  most : l.moved ≤ l.most;
  within : l.moved ≤ length l.fn.host.out;
}

abbrev pub decreases-loop-moved : goal.decreases-loop-moved
decreases-loop-moved l = l.most - l.moved
