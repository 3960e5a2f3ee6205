use Rattle.std.proofs.Common.{◌≡◌, ◌++◌}
use Rattle.escpos_image.specs.Packing.{row_packed}
use Rattle.escpos_image.proofs.packing.put_packed.Given as goal

abbrev pub invariant-loop-k : goal.invariant-loop-k
invariant-loop-k l = l.bytes.items ≡ l.fn.bytes.items ++ row_packed l.row l.k
