use Rattle.std.proofs.Common.{◌≡◌, flat_map}
use Rattle.std.specs.List.{range_with_len}
use Rattle.escpos_image.specs.Entries.{entry_line}
use Rattle.escpos_image.proofs.dots.DotPicture.entries.Given as goal

abbrev pub invariant-loop-b : goal.invariant-loop-b
invariant-loop-b l = l.text.items ≡ flat_map (entry_line l.self) (range_with_len 0 l.b)
