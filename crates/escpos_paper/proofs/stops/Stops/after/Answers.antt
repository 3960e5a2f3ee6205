use Rattle.std.proofs.Common.{◌≡◌, ◌+◌, get_or, take, drop, sym, ap, ◌∙◌, arith, cond, true, Some}
use Rattle.std.specs.Prelude.{nat_lt}
use Rattle.std.proofs.lemmas.Bool.Decides.{nat_tests}
use Rattle.std.proofs.lemmas.List.{drop_more}
use Rattle.escpos_paper.specs.Cells.{next_stop}
use Rattle.escpos_paper.proofs.stops.Stops.after.Goals as goal

pub returns-then-stop-dot : goal.returns-then-stop-dot
returns-then-stop-dot c =
    let xs = take c.self.inside.count c.self.inside.dots in
    let i = c.loop-stop.stop-index in
    let found = get_or xs i 0 in
    let right : nat_lt c.args.dot found ≡ true = grind (arith, nat_tests, c.if-stop-dot.true) in
    sym (c.loop-stop.invariant ∙ ap (λ l. next_stop c.args.dot (drop i l)) (sym c.self.view_is) ∙ ap (next_stop c.args.dot) (drop_more xs i 0 c.loop-stop-test.true)
    ∙ ap (λ v. cond v (Some found) (next_stop c.args.dot (drop (i + 1) xs))) right)
