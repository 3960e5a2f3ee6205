-- The values so far are given, and the others are left.
use Rattle.std.proofs.Common.{drop}
use Rattle.std.specs.Prelude.{flat_map}
use Rattle.escpos_io.specs.Putting.{passage}
use Rattle.escpos_job_parts.specs.Lines.{byte_value}
use Rattle.escpos_stream_jobs.proofs.ValuesPut.{ValuesPut}
use Rattle.escpos_stream_jobs.proofs.passed_line.put_values.Given as goal

abbrev pub invariant-loop-byte : goal.invariant-loop-byte
invariant-loop-byte g l =
    ValuesPut (passage (g.W.ByteOut.written l.fn.writer) (g.W.ByteOut.written l.writer) (g.W.ByteOut.failed l.fn.writer) (g.W.ByteOut.failed l.writer))
    l.fn.gather l.gather (drop l.byte-index l.bytes) (flat_map byte_value l.bytes)
