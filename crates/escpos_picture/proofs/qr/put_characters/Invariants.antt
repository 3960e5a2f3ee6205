-- The characters so far are given, and those of the rest are left, which gets shorter.
use Rattle.std.proofs.Common.{length}
use Rattle.escpos_io.specs.Putting.{passage}
use Rattle.escpos_picture.specs.Rows.{characters_text}
use Rattle.escpos_picture.proofs.RasterRows.{DrawnTo}
use Rattle.escpos_picture.proofs.qr.put_characters.Given as goal

abbrev pub invariant-loop-rest : goal.invariant-loop-rest
invariant-loop-rest g l =
    DrawnTo (passage (g.W.ByteOut.written l.fn.writer) (g.W.ByteOut.written l.writer) (g.W.ByteOut.failed l.fn.writer) (g.W.ByteOut.failed l.writer))
    l.fn.gather l.gather (characters_text 0 0 l.rest) (characters_text 0 0 l.content)

abbrev pub decreases-loop-rest : goal.decreases-loop-rest
decreases-loop-rest g l = length l.rest
