-- The text begins with the entries so far, and the rest gets shorter.
use Rattle.std.proofs.Common.{length}
use Rattle.escpos_c.specs.TillTexts.{Says}
use Rattle.escpos_c.proofs.till_texts.entries_of.Given as goal

abbrev pub invariant-loop-alloc : goal.invariant-loop-alloc
invariant-loop-alloc l = Says l.text l.entries.items l.rest

abbrev pub decreases-loop-alloc : goal.decreases-loop-alloc
decreases-loop-alloc l = length l.rest
