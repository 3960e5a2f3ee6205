use Rattle.std.proofs.Common.{◌≤◌, ◌*◌}
use Rattle.escpos_printer.specs.Serves.{link}
use Rattle.escpos_tcp_jobs.proofs.TornParts.{ServedSoFar}
use Rattle.escpos_tcp_jobs.proofs.emulate.serve_in_parts.Given as goal

-- this many parts were served, and what they printed was torn off
abbrev pub invariant-loop : goal.invariant-loop
invariant-loop g l = record {
  some : 1 ≤ l.counter;
  most : l.counter ≤ 1024;
  so_far :
      ServedSoFar l.fn.printer (link (g.R.ByteIn.to_come l.fn.reader) (g.R.ByteIn.to_come l.reader) (g.A.ByteOut.written l.fn.writer) (g.A.ByteOut.written l.writer))
      (16384 * l.counter) l.served l.fn.paper l.paper l.printer;
  few : l.served.written ≤ 3801204 * l.counter;
}
