use Rattle.std.proofs.Common.{◌≡◌, ◌*◌, ◌≤◌, [], length, take, IsTrue}
use Rattle.std.specs.List.{flat_map}
use Rattle.escpos_io.specs.Gather.{Carries}
use Rattle.escpos_io.specs.declared.pieces.TheConstants.{PIECE_BYTES}
use Rattle.escpos_io.proofs.pieces.put_pieces.Given as goal

-- the pieces so far are with the sink or kept back, few enough to count, and no call has failed;
-- before the first piece nothing is kept back and the sink is as it was
abbrev pub invariant-loop-piece : goal.invariant-loop-piece
invariant-loop-piece g l = record {
  carried : Carries (g.W.ByteOut.written l.fn.writer) (g.W.ByteOut.written l.writer) l.gather (flat_map g.P.Piece.bytes (take l.piece-index l.pieces));
  few : length (flat_map g.P.Piece.bytes (take l.piece-index l.pieces)) ≤ PIECE_BYTES * l.piece-index;
  untouched : l.piece-index ≡ 0 → (l.gather.kept ≡ []) × (l.writer ≡ l.fn.writer);
  not_failed : ¬ IsTrue (g.W.ByteOut.failed l.fn.writer) → ¬ IsTrue (g.W.ByteOut.failed l.writer);
}
