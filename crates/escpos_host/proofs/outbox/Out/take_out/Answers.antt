-- The bytes of one more command, or of a part of it, follow those that are copied.
use Rattle.escpos_host.proofs.Pending.{more_taken}
use Rattle.escpos_host.proofs.outbox.Out.take_out.Goals as goal

pub loop-filled-preserved : goal.loop-filled-preserved
loop-filled-preserved c =
    more_taken c.args.receipts.now c.args.self.now c.loop-filled.self c.take_command-filled.new.self c.args.out.now c.loop-filled.out
    c.take_command-filled.new.out c.loop-filled.filled c.take_command-filled.result c.loop-filled.invariant c.take_command-filled.ensures.taken
