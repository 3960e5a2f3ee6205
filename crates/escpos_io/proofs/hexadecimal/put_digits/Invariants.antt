-- The digits of the parts so far were given to the gather.
use Rattle.std.proofs.Common.{◌≡◌}
use Rattle.std.specs.Slice.Iter.{chunks_rest, chunks_size}
use Rattle.escpos_io.specs.Putting.{passage}
use Rattle.escpos_io.proofs.Digits.{DigitsPut}
use Rattle.escpos_io.proofs.hexadecimal.put_digits.Given as goal

abbrev pub invariant-loop-part : goal.invariant-loop-part
invariant-loop-part g l = record {
  can_next : (goal.iterator-loop-part g).can_next l.part-iterator;
  is_finite : (goal.iterator-loop-part g).is_finite l.part-iterator;
  size : chunks_size l.part-iterator ≡ 256;
  so_far : DigitsPut (passage (g.W.ByteOut.written l.fn.writer) (g.W.ByteOut.written l.writer) (g.W.ByteOut.failed l.fn.writer) (g.W.ByteOut.failed l.writer))
      l.fn.gather l.gather l.bytes (chunks_rest l.part-iterator);
}
