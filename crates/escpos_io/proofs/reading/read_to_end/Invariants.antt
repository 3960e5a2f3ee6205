-- What was pulled so far is what was kept, it is within the limit, and each pull gave a byte and didn't fail.
use Rattle.std.proofs.Common.{◌+◌, ◌-◌, ◌<◌, ◌≤◌, IsTrue, vec_len}
use Rattle.std.specs.Io.KnownBytes.{Consumes}
use Rattle.escpos_io.proofs.reading.read_to_end.Given as goal

abbrev pub invariant-pieces : goal.invariant-pieces
invariant-pieces g l = record {
  piece : 0 < vec_len l.piece;
  within : vec_len l.all ≤ l.limit;
  front : Consumes (g.R.ByteIn.to_come l.initial.reader) (g.R.ByteIn.to_come l.reader) l.all.items;
  not_failed : ¬ IsTrue (g.R.ByteIn.failed l.reader);
  pulls : g.R.ByteIn.pull_count l.reader ≤ g.R.ByteIn.pull_count l.initial.reader + vec_len l.all;
}

abbrev pub decreases-pieces : goal.decreases-pieces
decreases-pieces g l = l.limit - vec_len l.all
