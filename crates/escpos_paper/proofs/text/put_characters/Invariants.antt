-- The characters so far are given, and the others are left.
use Rattle.std.proofs.Common.{drop}
use Rattle.std.specs.Prelude.{flat_map}
use Rattle.escpos_io.specs.Putting.{passage}
use Rattle.escpos_paper.specs.ItemsText.{byte_text}
use Rattle.escpos_paper.proofs.CharactersPut.{CharactersPut}
use Rattle.escpos_paper.proofs.text.put_characters.Given as goal

abbrev pub invariant-loop-byte : goal.invariant-loop-byte
invariant-loop-byte g l =
    CharactersPut (passage (g.W.ByteOut.written l.fn.writer) (g.W.ByteOut.written l.writer) (g.W.ByteOut.failed l.fn.writer) (g.W.ByteOut.failed l.writer))
    l.fn.gather l.gather (drop l.byte-index l.bytes) (flat_map byte_text l.bytes)
