-- The bytes of the entries so far were appended.
use Rattle.std.proofs.Common.{◌≡◌, take}
use Rattle.escpos_stream_jobs.proofs.EntrySpellings.{entries_spelled}
use Rattle.escpos_c.proofs.spelling.spelled.Given as goal

abbrev pub invariant-loop-entry : goal.invariant-loop-entry
invariant-loop-entry l = l.bytes.items ≡ entries_spelled (take l.entry-index l.entries)
