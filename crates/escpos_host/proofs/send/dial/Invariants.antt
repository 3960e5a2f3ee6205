use Rattle.std.proofs.Common.{◌≡◌, ◌≤◌, ◌+◌, max}
use Rattle.escpos_host.specs.Awaits.{dialled_by}
use Rattle.escpos_host.specs.Machine.{Down, mark_limit}
use Rattle.escpos_host.proofs.send.dial.Given as goal

-- this many opening marks are put out
abbrev pub invariant-loop : goal.invariant-loop
invariant-loop l = record {
  down : l.fn.host.phase ≡ Down;
  some : 1 ≤ l.counter;
  few : l.counter ≤ max l.fn.openings 1;
  marks : l.fn.host.next + l.counter ≤ mark_limit l.fn.host;
  dialled : l.host ≡ dialled_by l.fn.reporting l.fn.host l.counter;
}
