-- From news to news.
use Rattle.std.proofs.Common.{◌≡◌, ◌∙◌, false, true, subst, sym, ap, arith}
use Rattle.escpos_till.specs.Surroundings.{Did}
use Rattle.escpos_till_jobs.specs.Outputs.{output_of}
use Rattle.escpos_till_jobs.specs.News.{FollowsTelling}
use Rattle.escpos_till_jobs.proofs.Telling.{gives_up, none_more, not_told, news_on, told_at_last}
use Rattle.escpos_till_jobs.proofs.following.follow_telling.Goals as goal

pub returns-in_default-clause-follows : goal.returns-in_default-clause-follows
returns-in_default-clause-follows g c =
    subst (λ f. FollowsTelling (Did g.S.Store.faithful g.S.Store.holds g.S.Store.leaves g.S.Store.says g.L.PrinterLine.did) c.args.machine.now c.args.around.now (output_of (g.W.ByteOut.written c.args.output.now) (g.W.ByteOut.failed c.args.output.now)) f c.drive_within.new.machine c.drive_within.new.around (output_of (g.W.ByteOut.written c.loop-left.output) (g.W.ByteOut.failed c.loop-left.output))) (sym c.outcome_and.ensures)
    (not_told (Did g.S.Store.faithful g.S.Store.holds g.S.Store.leaves g.S.Store.says g.L.PrinterLine.did) c.args.machine.now c.args.around.now (output_of (g.W.ByteOut.written c.args.output.now) (g.W.ByteOut.failed c.args.output.now)) c.loop-left.told c.loop-left.machine c.loop-left.around (output_of (g.W.ByteOut.written c.loop-left.output) (g.W.ByteOut.failed c.loop-left.output)) c.loop-left.left c.drive_within.new.machine c.drive_within.new.around c.loop-left.invariant.far (c.drive_within.ensures.not_told c.in_default.is))

pub returns-then-rests-clause-follows : goal.returns-then-rests-clause-follows
returns-then-rests-clause-follows g c =
    subst (λ f. FollowsTelling (Did g.S.Store.faithful g.S.Store.holds g.S.Store.leaves g.S.Store.says g.L.PrinterLine.did) c.args.machine.now c.args.around.now (output_of (g.W.ByteOut.written c.args.output.now) (g.W.ByteOut.failed c.args.output.now)) f c.drive_within.new.machine c.drive_within.new.around (output_of (g.W.ByteOut.written c.loop-left.output) (g.W.ByteOut.failed c.loop-left.output))) (sym c.outcome_and-then-rests.ensures)
    (told_at_last (Did g.S.Store.faithful g.S.Store.holds g.S.Store.leaves g.S.Store.says g.L.PrinterLine.did) c.args.machine.now c.args.around.now (output_of (g.W.ByteOut.written c.args.output.now) (g.W.ByteOut.failed c.args.output.now)) c.loop-left.told c.loop-left.machine c.loop-left.around (output_of (g.W.ByteOut.written c.loop-left.output) (g.W.ByteOut.failed c.loop-left.output)) c.loop-left.left c.drive_within.new.left c.in-Some.note c.drive_within.new.machine c.drive_within.new.around c.loop-left.invariant.far c.in-Some.ensures.told (c.rests.ensures.0 c.if-rests.true))

pub loop-left-preserved : goal.loop-left-preserved
loop-left-preserved g c = record {
  far = news_on (Did g.S.Store.faithful g.S.Store.holds g.S.Store.leaves g.S.Store.says g.L.PrinterLine.did) c.args.machine.now c.args.around.now (output_of (g.W.ByteOut.written c.args.output.now) (g.W.ByteOut.failed c.args.output.now)) c.loop-left.told c.tell_news_if-told.result c.loop-left.machine c.loop-left.around (output_of (g.W.ByteOut.written c.loop-left.output) (g.W.ByteOut.failed c.loop-left.output)) c.loop-left.left c.drive_within.new.left c.in-Some.note c.drive_within.new.machine c.drive_within.new.around (output_of (g.W.ByteOut.written c.tell_news_if-told.new.output) (g.W.ByteOut.failed c.tell_news_if-told.new.output))
      c.loop-left.invariant.far c.in-Some.ensures.told (λ rests. let bad : false ≡ true = sym c.if-rests.false ∙ c.rests.ensures.1 rests in cc) c.tell_news_if-told.ensures.told
      (λ not. let (same, none) = c.tell_news_if-told.ensures.stays not in (ap (λ o. (output_of (g.W.ByteOut.written o) (g.W.ByteOut.failed o))) same, none)) c.tell_news_if-told.ensures.failed;
}

pub returns-clause-follows : goal.returns-clause-follows
returns-clause-follows g c =
    let none = c.loop-left-test.false in
    subst (λ f. FollowsTelling (Did g.S.Store.faithful g.S.Store.holds g.S.Store.leaves g.S.Store.says g.L.PrinterLine.did) c.args.machine.now c.args.around.now (output_of (g.W.ByteOut.written c.args.output.now) (g.W.ByteOut.failed c.args.output.now)) f c.loop-left.machine c.loop-left.around (output_of (g.W.ByteOut.written c.loop-left.output) (g.W.ByteOut.failed c.loop-left.output))) (sym c.outcome_and-2.ensures)
    (gives_up (Did g.S.Store.faithful g.S.Store.holds g.S.Store.leaves g.S.Store.says g.L.PrinterLine.did) c.args.machine.now c.args.around.now (output_of (g.W.ByteOut.written c.args.output.now) (g.W.ByteOut.failed c.args.output.now)) c.loop-left.told c.loop-left.machine c.loop-left.around (output_of (g.W.ByteOut.written c.loop-left.output) (g.W.ByteOut.failed c.loop-left.output)) c.loop-left.left c.loop-left.machine c.loop-left.around c.loop-left.invariant.far
    (none_more (Did g.S.Store.faithful g.S.Store.holds g.S.Store.leaves g.S.Store.says g.L.PrinterLine.did) c.loop-left.machine c.loop-left.around c.loop-left.left (omega (arith, none))))
