-- What was heard so far passed, and changed nothing but the half answer.
use Rattle.std.proofs.Common.{◌≡◌, ◌≢◌, take}
use Rattle.escpos_host.specs.Heard.{Passed, with_half}
use Rattle.escpos_host.specs.Machine.{Down}
use Rattle.escpos_host.proofs.host.Host.heard.Given as goal

abbrev pub invariant-loop-at : goal.invariant-loop-at
invariant-loop-at l = record {
  up : l.fn.self.phase ≢ Down;
  passed : Passed l.fn.self (take l.at l.bytes) l.self.half;
  same : l.self ≡ with_half l.fn.self l.self.half;
}
