-- So far each is listed.
use Rattle.std.proofs.Common.{ℕ, List, take}
use Rattle.escpos_till.specs.Keyed.{ListsKey}
use Rattle.escpos_till.proofs.renewing.are_listed.Given as goal

abbrev pub invariant-loop-place : goal.invariant-loop-place
invariant-loop-place l = (key : List ℕ) (number : ℕ) → ListsKey (take l.place l.keys.items) key number → ListsKey l.all.items key number
