use Rattle.std.proofs.Common.{◌<◌, length, arith}
use Rattle.escpos_decode.proofs.Pieces.{stream_fault}
use Rattle.escpos_command.proofs.Readings.{fault_joined, fault_of_front}
use Rattle.escpos_decode.proofs.stream.decode_pieces.Goals as goal

pub returns-in-Err-Fault : goal.returns-in-Err-Fault
returns-in-Err-Fault c =
    let inside : c.loop-piece.piece-index < length c.args.pieces.now = omega arith in
    let found = rw c.in-Err-Fault.field-0-is at c.in-Err-Fault.ensures.stopped in
    rw (c.in-Err-Fault.at-is, c.in-Err-Fault.why-is)
    (stream_fault (record { fault = fault_joined; first_fault = fault_of_front })
    c.args.pieces.now c.loop-piece.piece-index _ _ found.0 _ _ _ _ _ _ inside c.loop-piece.invariant.read c.loop-piece.invariant.counted found.2 found.3)
