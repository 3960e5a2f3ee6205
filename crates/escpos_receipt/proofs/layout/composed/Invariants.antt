-- The characters so far are those that were read.
use Rattle.std.proofs.Common.{◌≡◌}
use Rattle.escpos_receipt.proofs.layout.composed.Given as goal

abbrev pub invariant-loop-character : goal.invariant-loop-character
invariant-loop-character l = l.given.items ≡ l.yielded
