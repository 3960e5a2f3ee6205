use Rattle.std.proofs.Common.{ℕ, List, ◌++◌, take, IsTrue}
use Rattle.std.specs.Prelude.{Option, flat_map}
use Rattle.escpos_io.specs.Gather.{Carries}
use Rattle.escpos_stream_jobs.proofs.render.give_items.Given as goal

-- the text of the items so far is given, and no call has failed
abbrev pub invariant-loop-item : goal.invariant-loop-item
invariant-loop-item g l = record {
  carried : (first : Option (List ℕ)) (total : List ℕ) → Carries first (g.W.ByteOut.written l.fn.output) l.fn.gather total
      → Carries first (g.W.ByteOut.written l.output) l.gather (total ++ flat_map g.F.ItemForm.text (take l.item-index l.items));
  not_failed : ¬ IsTrue (g.W.ByteOut.failed l.fn.output) → ¬ IsTrue (g.W.ByteOut.failed l.output);
}
