use Rattle.std.proofs.Common.{◌≤◌, ◌*◌}
use Rattle.escpos_tcp_jobs.specs.Watched.{Watches, sink, watch_view}
use Rattle.escpos_tcp_jobs.proofs.watch.take_turns.Given as goal

-- what happened so far
abbrev pub invariant-loop : goal.invariant-loop
invariant-loop g l = record {
  watches :
      Watches (watch_view l.fn.printer (g.R.Read.remaining l.fn.reader) (sink (g.A.ByteOut.written l.fn.writer) (g.A.ByteOut.failed l.fn.writer)) (g.C.Conditions.to_say l.fn.conditions) l.fn.paper l.fn.progress)
      (watch_view l.printer (g.R.Read.remaining l.reader) (sink (g.A.ByteOut.written l.writer) (g.A.ByteOut.failed l.writer)) (g.C.Conditions.to_say l.conditions) l.paper l.progress);
  few : l.progress.written ≤ 238 * l.counter;
  most : l.counter ≤ 4294967295;
}
