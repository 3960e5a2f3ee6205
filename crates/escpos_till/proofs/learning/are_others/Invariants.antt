-- So far each of them is one that others may add.
use Rattle.std.proofs.Common.{take}
use Rattle.std.specs.List.{AllByRecursion}
use Rattle.escpos_till.specs.Learning.{IsOthers}
use Rattle.escpos_till.proofs.learning.are_others.Given as goal

abbrev pub invariant-loop-entry : goal.invariant-loop-entry
invariant-loop-entry l = AllByRecursion IsOthers (take l.entry-index l.entries)
