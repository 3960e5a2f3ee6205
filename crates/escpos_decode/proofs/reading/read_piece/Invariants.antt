use Rattle.std.proofs.Common.{◌++◌, ◌≤◌, ◌-◌, take, length}
use Rattle.escpos_decode.proofs.Streams.{Turn}
use Rattle.escpos_decode.proofs.reading.read_piece.Given as goal

-- the bytes so far are read, and their commands taken
abbrev pub invariant-loop-at : goal.invariant-loop-at
invariant-loop-at g l = record {
  turn : Turn (g.C.Consumer.accepted (l.fn.consumer, l.fn.output) (l.consumer, l.output)) (l.fn.decoder ++ take l.at l.piece) l.decoder l.start;
  inside : l.at ≤ length l.piece;
}

abbrev pub decreases-loop-at : goal.decreases-loop-at
decreases-loop-at g l = length l.piece - l.at
