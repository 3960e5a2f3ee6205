-- A new till begins, with a new line.
use Rattle.std.proofs.Common.{[], refl, arith}
use Rattle.escpos_till.specs.Delivers.{fresh}
use Rattle.escpos_till_model.proofs.TillWorlds.{new_begins}
use Rattle.escpos_till_model.proofs.till.Till.new.Goals as goal

pub invariant_of-result : goal.invariant_of-result
invariant_of-result c =
    let wire = c.in_ok-wire.ensures in
    let right = c.new_line.ensures (fresh 0 0) c.in_ok-wire.wire 0 0 c.args.width (omega arith) refl wire.sheet wire.half wire.waiting wire.ended wire.live wire.coming in
    record { first = _; happenings = []; begins = new_begins _ refl c.new-2.ensures.items c.new-3.ensures.items right.0 right.1; runs = refl }

pub returns-clause-begins : goal.returns-clause-begins
returns-clause-begins c =
    let wire = c.in_ok-wire.ensures in
    let right = c.new_line.ensures (fresh 0 0) c.in_ok-wire.wire 0 0 c.args.width (omega arith) refl wire.sheet wire.half wire.waiting wire.ended wire.live wire.coming in
    new_begins _ refl c.new-2.ensures.items c.new-3.ensures.items right.0 right.1
