-- The digits of the entries so far were given to the gather.
use Rattle.std.proofs.Common.{Ok, take}
use Rattle.escpos_io.specs.Giving.{IsGiven}
use Rattle.escpos_io.specs.Putting.{passage}
use Rattle.escpos_stream_jobs.proofs.EntrySpellings.{entries_spelled}
use Rattle.escpos_stream_jobs.proofs.encode.put_entries.Given as goal

abbrev pub invariant-loop-entry : goal.invariant-loop-entry
invariant-loop-entry g l =
    IsGiven (Ok tt) (passage (g.W.ByteOut.written l.fn.writer) (g.W.ByteOut.written l.writer) (g.W.ByteOut.failed l.fn.writer) (g.W.ByteOut.failed l.writer))
    l.fn.gather l.gather (g.F.ByteForm.of (entries_spelled (take l.entry-index l.entries)))
