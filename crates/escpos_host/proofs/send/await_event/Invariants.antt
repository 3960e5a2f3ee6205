use Rattle.std.proofs.Common.{◌≡◌, ◌≢◌, ◌≤◌, ◌+◌, ◌-◌, length, IsTrue}
use Rattle.escpos_host.specs.Machine.{Down}
use Rattle.escpos_host.proofs.Waiting.{Waited}
use Rattle.escpos_host.proofs.send.await_event.Given as goal

-- what was read so far brought nothing
abbrev pub invariant-loop-read : goal.invariant-loop-read
invariant-loop-read g l = record {
  up : l.fn.host.phase ≢ Down;
  waited : Waited l.fn.host (g.R.ByteIn.to_come l.fn.reader) (g.R.ByteIn.to_come l.reader) l.read l.host;
  within : l.read ≤ l.most;
  room : length l.piece ≡ 64;
  pulls : g.R.ByteIn.pull_count l.reader ≤ g.R.ByteIn.pull_count l.fn.reader + l.read;
  reader_well : ¬ IsTrue (g.R.ByteIn.failed l.fn.reader) → ¬ IsTrue (g.R.ByteIn.failed l.reader);
}

abbrev pub decreases-loop-read : goal.decreases-loop-read
decreases-loop-read g l = l.most - l.read
