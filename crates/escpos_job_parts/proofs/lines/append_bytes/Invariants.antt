-- What is appended so far and the values of the bytes that are left make the whole text.
use Rattle.std.proofs.Common.{◌≡◌, ◌+◌, ◌*◌, ◌++◌, length, drop}
use Rattle.std.specs.List.{flat_map}
use Rattle.escpos_job_parts.specs.Lines.{byte_value}
use Rattle.escpos_job_parts.proofs.lines.append_bytes.Given as goal

abbrev pub invariant-loop-byte : goal.invariant-loop-byte
invariant-loop-byte l = record {
  whole : l.initial.gather.kept ++ flat_map byte_value l.bytes ≡ l.gather.kept ++ flat_map byte_value (drop l.byte-index l.bytes);
  short : length l.gather.kept ≡ length l.initial.gather.kept + 3 * l.byte-index;
  same_count : l.gather.written ≡ l.initial.gather.written;
}
