use Rattle.std.proofs.Common.{◌*◌, ◌≤◌, length, take, IsTrue}
use Rattle.std.specs.List.{flat_map}
use Rattle.escpos_io.specs.Gather.{Carries}
use Rattle.escpos_io.specs.declared.pieces.TheConstants.{PIECE_BYTES}
use Rattle.escpos_plain.specs.PlainText.{plain_text}
use Rattle.escpos_plain.proofs.write.write_plain_items.Given as goal

-- the lines so far are with the sink or kept back, few enough to count, and no call has failed
abbrev pub invariant-loop-item : goal.invariant-loop-item
invariant-loop-item g l = record {
  carried : Carries (g.W.ByteOut.written l.fn.writer) (g.W.ByteOut.written l.writer) l.gather (flat_map plain_text (take l.item-index l.items));
  few : length (flat_map plain_text (take l.item-index l.items)) ≤ PIECE_BYTES * l.item-index;
  not_failed : ¬ IsTrue (g.W.ByteOut.failed l.fn.writer) → ¬ IsTrue (g.W.ByteOut.failed l.writer);
}
