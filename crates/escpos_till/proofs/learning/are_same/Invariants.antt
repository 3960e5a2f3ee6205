-- So far each is the other's.
use Rattle.std.proofs.Common.{◌≡◌, take}
use Rattle.escpos_till.proofs.learning.are_same.Given as goal

abbrev pub invariant-loop-k : goal.invariant-loop-k
invariant-loop-k l = take l.k l.entries ≡ take l.k l.others
