-- The copy changes nothing after the bytes that it puts.
use Rattle.std.proofs.Common.{ℕ, ◌+◌, ◌-◌, arith, sym, ◌∙◌, length-take, length-drop}
use Rattle.std.proofs.lemmas.Slice.{drop-put_mid}
use Rattle.std.proofs.lemmas.List.{drop-drop}
use Rattle.escpos_io.proofs.memory_out.MemoryOut.put_front.Goals as goal

pub returns-clause-rest : goal.returns-clause-rest
returns-clause-rest c =
    let sink = c.args.self.now in
    let taken = c.min-taken.result in
    let end : ℕ = sink.len + taken in
    drop-put_mid sink.len (end - sink.len) sink.room.now c.copy_from_slice.new.self end (omega arith) (omega (arith, sink.within))
    (c.copy_from_slice.ensures.len ∙ simp (length-take, length-drop) (omega (arith, sink.within)))
    ∙ sym (drop-drop taken sink.len sink.room.now)
