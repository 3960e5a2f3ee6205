-- Bytes that were left are at the start of the buffer.
use Rattle.std.proofs.Common.{◌-◌, length}
use Rattle.escpos_host.specs.Out.{CopiedOut}
use Rattle.escpos_host.proofs.outbox.Out.take_out.Given as goal

abbrev pub invariant-loop-filled : goal.invariant-loop-filled
invariant-loop-filled l = CopiedOut l.receipts l.fn.self l.self l.fn.out l.out l.filled

abbrev pub decreases-loop-filled : goal.decreases-loop-filled
decreases-loop-filled l = length l.initial.out - l.filled
