-- The widths so far and those that are left make the whole.
use Rattle.std.proofs.Common.{◌≡◌, ◌+◌, drop}
use Rattle.std.specs.Prelude.{sum}
use Rattle.escpos_picture.proofs.bars.width_of.Given as goal

abbrev pub invariant-loop-width : goal.invariant-loop-width
invariant-loop-width l = record { whole : sum l.widths ≡ l.sum + sum (drop l.width-index l.widths) }
