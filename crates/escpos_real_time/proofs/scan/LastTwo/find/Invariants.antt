-- What is left, after the bytes so far, holds what all hold.
use Rattle.std.proofs.Common.{◌≡◌, ◌≤◌, ◌-◌, ℕ, List, ◌∷◌, ◌++◌, drop, length}
use Rattle.escpos_real_time.specs.Scan.{holds}
use Rattle.escpos_real_time.proofs.scan.LastTwo.find.Given as goal

abbrev pub invariant-loop-at : goal.invariant-loop-at
invariant-loop-at l =
    (l.at ≤ length l.bytes)
    × ((following : List ℕ) → holds (l.fn.self.first ∷ l.fn.self.second ∷ (l.bytes ++ following)) ≡ holds (l.self.first ∷ l.self.second ∷ (drop l.at l.bytes ++ following)))

abbrev pub decreases-loop-at : goal.decreases-loop-at
decreases-loop-at l = length l.bytes - l.at
