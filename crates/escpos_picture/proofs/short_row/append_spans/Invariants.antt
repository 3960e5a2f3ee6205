-- The bytes so far are written, but for white ones after the last that has a black dot.
use Rattle.std.proofs.Common.{◌≡◌, ◌+◌, ◌*◌, ◌≤◌, ◌++◌, take, drop}
use Rattle.escpos_picture.specs.Spans.{row_spans, spans_text, passed}
use Rattle.escpos_picture.proofs.short_row.append_spans.Given as goal

abbrev pub invariant-loop-byte : goal.invariant-loop-byte
invariant-loop-byte l = record {
  so_far : take l.len l.fn.bytes ++ spans_text (row_spans 0 l.row) ≡ take l.end l.bytes ++ spans_text (row_spans (8 * l.white) (drop l.byte-index l.row));
  way : passed (row_spans 0 l.row) + 8 * l.white ≡ 8 * l.byte-index + passed (row_spans (8 * l.white) (drop l.byte-index l.row));
  near : l.white ≤ l.byte-index;
  room : l.end ≤ l.len + 32 * l.byte-index;
}
