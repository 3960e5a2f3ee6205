use Rattle.std.proofs.Common.{◌≡◌, ◌+◌, ◌*◌, ◌++◌, length, take}
use Rattle.escpos_probe.specs.Lines.{spaced}
use Rattle.escpos_probe.proofs.told.append_bytes.Given as goal

-- the bytes so far stand after what was there, in three characters each
abbrev pub invariant-loop-byte : goal.invariant-loop-byte
invariant-loop-byte l = record {
  kept : l.gather.kept ≡ l.fn.gather.kept ++ spaced (take l.byte-index l.bytes);
  same_count : l.gather.written ≡ l.fn.gather.written;
  long : length l.gather.kept ≡ length l.fn.gather.kept + 3 * l.byte-index;
}
