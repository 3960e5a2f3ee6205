-- What happened so far, then the printer was fed, and then it handed an answer over.
use Rattle.escpos_till_model.proofs.WireLines.{then_on}
use Rattle.escpos_till_model.proofs.wire_line.print.Goals as goal

pub returns-then-not-hand_over : goal.returns-then-not-hand_over
returns-then-not-hand_over c =
    then_on c.args.wire.now c.feed.new.wire c.hand_over.new.wire (then_on c.args.wire.now c.loop.wire c.feed.new.wire c.loop.invariant c.feed.ensures) c.hand_over.ensures

pub loop-preserved : goal.loop-preserved
loop-preserved c = then_on c.args.wire.now c.feed.new.wire c.hand_over.new.wire (then_on c.args.wire.now c.loop.wire c.feed.new.wire c.loop.invariant c.feed.ensures) c.hand_over.ensures
