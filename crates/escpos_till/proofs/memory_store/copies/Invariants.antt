use Rattle.std.proofs.Common.{◌≡◌, take}
use Rattle.escpos_till.proofs.memory_store.copies.Given as goal

abbrev pub invariant-loop-entry : goal.invariant-loop-entry
invariant-loop-entry l = l.copies.items ≡ take l.entry-index l.entries
