-- So many contents stand in the entries so far, none of them at the place.
use Rattle.std.proofs.Common.{◌≡◌, ◌≤◌, length, take}
use Rattle.escpos_till.specs.Entries.{contents}
use Rattle.escpos_till_jobs.proofs.again.content_at.Given as goal

abbrev pub invariant-loop-entry : goal.invariant-loop-entry
invariant-loop-entry l = record {
  passed : l.passed ≡ length (contents (take l.entry-index l.entries));
  before : l.passed ≤ l.place;
}
