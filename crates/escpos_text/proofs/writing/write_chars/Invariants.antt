-- The characters so far are written.
use Rattle.std.proofs.Common.{drop, length}
use Rattle.std.specs.Prelude.{chars}
use Rattle.escpos_text.proofs.SoFar.{SoFar}
use Rattle.escpos_text.proofs.writing.write_chars.Given as goal

abbrev pub invariant-loop-character : goal.invariant-loop-character
invariant-loop-character l =
    SoFar l.initial.encoding (chars l.text) (drop (length l.yielded) (chars l.text)) l.initial.out.items l.out.items l.encoding
