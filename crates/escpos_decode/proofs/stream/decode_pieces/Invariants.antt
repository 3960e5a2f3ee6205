use Rattle.std.proofs.Common.{◌≡◌, ◌*◌, ◌^◌, ◌≤◌, length, take}
use Rattle.escpos_command.specs.Grammar.{Reads}
use Rattle.escpos_decode.specs.Stream.{joined}
use Rattle.escpos_decode.proofs.stream.decode_pieces.Given as goal

-- the pieces so far read as the commands and the half command, and their bytes are counted
abbrev pub invariant-loop-piece : goal.invariant-loop-piece
invariant-loop-piece l = record {
  read : Reads (joined (take l.piece-index l.pieces)) l.commands.items l.decoder;
  counted : l.length ≡ length (joined (take l.piece-index l.pieces));
  few : l.length ≤ l.piece-index * 2 ^ 64;
}
