use Rattle.std.proofs.Common.{◌≡◌, ◌-◌}
use Rattle.escpos_image.specs.Packing.{packed_rows}
use Rattle.escpos_image.proofs.packing.packed_rows.Given as goal

abbrev pub invariant-loop-j : goal.invariant-loop-j
invariant-loop-j l = l.bytes.items ≡ packed_rows l.picture l.first (l.j - l.first)
