use Rattle.std.proofs.Common.{[], length, arith, ◌-◌, ◌+◌}
use Rattle.escpos_command.proofs.Readings.{joined}
use Rattle.escpos_printer.proofs.Taking.{one_more, run_more, run_within}
use Rattle.escpos_printer.proofs.printer.Printer.feed.Goals as goal

pub loop-consumed-init : goal.loop-consumed-init
loop-consumed-init c = record { inside = c.feed_text-consumed.ensures.count; took = (_, c.feed_text-consumed.ensures.taken) }

pub loop-consumed-preserved : goal.loop-consumed-preserved
loop-consumed-preserved c =
    let before = c.args.self.now in
    let piece = c.args.piece.now in
    let at = c.loop-consumed.consumed in
    let dots = c.feed_dots-consumed.result in
    let text = c.feed_text-consumed-in-loop-consumed.result in
    let few = run_within piece (at + 1) dots c.feed_dots-consumed.ensures.count in
    let some = run_within piece (at + 1 + dots) text c.feed_text-consumed-in-loop-consumed.ensures.count in
    let taken = rw c.in_default.is at c.feed_byte.ensures.taken in
    let one = one_more joined before c.loop-consumed.self c.feed_byte.new.self piece at c.loop-consumed-test.true c.loop-consumed.invariant.took taken in
    let run =
    run_more joined before c.feed_byte.new.self c.feed_dots-consumed.new.self piece (at + 1) dots (length piece - (at + 1)) few one ([], c.feed_dots-consumed.ensures.taken) in
    record {
      inside = omega (arith, some, few, c.loop-consumed-test.true);
      took =
          run_more joined before c.feed_dots-consumed.new.self c.feed_text-consumed-in-loop-consumed.new.self piece (at + 1 + dots) text (length piece - (at + 1 + dots)) some run
          (_, c.feed_text-consumed-in-loop-consumed.ensures.taken);
    }
