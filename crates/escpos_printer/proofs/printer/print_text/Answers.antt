use Rattle.std.proofs.Common.{◌-◌, length, arith}
use Rattle.escpos_printer.proofs.Taking.{run_within}
use Rattle.escpos_printer.proofs.TextTaken.{prints_on}
use Rattle.escpos_printer.proofs.printer.print_text.Goals as goal

pub loop-printed-preserved : goal.loop-printed-preserved
loop-printed-preserved c =
    let text = c.args.text.now in
    let at = c.loop-printed.printed in
    let few = run_within text at c.in-Ok.count c.in-Ok.ensures.count.1 in
    record {
      inside = omega (arith, few, c.loop-printed-test.true);
      prints = prints_on c.args.page.now.sheet c.loop-printed.page.sheet c.apply_text.new.self.sheet text at c.in-Ok.count (length text - at) few c.loop-printed.invariant.prints c.in-Ok.ensures.taken;
    }
