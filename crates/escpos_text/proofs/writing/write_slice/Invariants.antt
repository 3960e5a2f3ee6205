-- The characters so far are written.
use Rattle.std.proofs.Common.{drop}
use Rattle.escpos_text.proofs.SoFar.{SoFar}
use Rattle.escpos_text.proofs.writing.write_slice.Given as goal

abbrev pub invariant-loop-character : goal.invariant-loop-character
invariant-loop-character l =
    SoFar l.initial.encoding l.characters (drop l.character-index l.characters) l.initial.out.items l.out.items l.encoding
