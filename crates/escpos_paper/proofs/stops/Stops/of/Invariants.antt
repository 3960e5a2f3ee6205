-- The stops so far are those of the columns so far.
use Rattle.std.proofs.Common.{◌≡◌, ◌*◌, length, map, take}
use Rattle.escpos_paper.proofs.stops.Stops.of.Given as goal

abbrev pub invariant-loop-place : goal.invariant-loop-place
invariant-loop-place l = (length l.dots ≡ 32) × (take l.place l.dots ≡ map (λ n. n * l.width) (take l.place l.columns))
