-- What the owner is told ends it, unless a receipt is recorded and its line printed.
use Rattle.std.proofs.Common.{true, false, ◌≡◌, subst, rules}
use Rattle.escpos_till.specs.Machine.{RefusesDeliver}
use Rattle.escpos_till.specs.Surroundings.{Did}
use Rattle.escpos_till_jobs.specs.Delivering.{asked}
use Rattle.escpos_till_jobs.specs.Outputs.{output_of}
use Rattle.escpos_till_jobs.specs.News.{BecomesWith}
use Rattle.escpos_till_jobs.proofs.LinkLines.{both_ok, if_err_so, ok_so}
use Rattle.escpos_till_jobs.proofs.Rounds.{note_ends, round_failed, round_goes, round_over}
use Rattle.escpos_till_jobs.proofs.deliver.deliver_next.Goals as goal

pub returns-then-not-told-clause-ended : goal.returns-then-not-told-clause-ended
returns-then-not-told-clause-ended g c =
    let not : c.delivered-outcome.result.told ≡ false = search rules in
    round_failed (Did g.S.Store.faithful g.S.Store.holds g.S.Store.leaves g.S.Store.says g.L.PrinterLine.did) c.args.delivery.now c.args.machine.now c.args.around.now (output_of (g.W.ByteOut.written c.args.output.now) (g.W.ByteOut.failed c.args.output.now)) c.delivered-outcome.result.outcome c.delivered-outcome.new.machine c.delivered-outcome.new.around (output_of (g.W.ByteOut.written c.delivered-outcome.new.output) (g.W.ByteOut.failed c.delivered-outcome.new.output))
    (subst (λ t. BecomesWith (Did g.S.Store.faithful g.S.Store.holds g.S.Store.leaves g.S.Store.says g.L.PrinterLine.did) (RefusesDeliver c.args.machine.now c.args.delivery.now.openings) c.args.machine.now c.args.around.now (asked c.args.delivery.now) (output_of (g.W.ByteOut.written c.args.output.now) (g.W.ByteOut.failed c.args.output.now)) c.delivered-outcome.result.outcome t c.delivered-outcome.new.machine c.delivered-outcome.new.around (output_of (g.W.ByteOut.written c.delivered-outcome.new.output) (g.W.ByteOut.failed c.delivered-outcome.new.output))) not c.delivered-outcome.ensures.becomes)

pub returns-in-Told-clause-recorded : goal.returns-in-Told-clause-recorded
returns-in-Told-clause-recorded g c =
    let told : c.delivered-outcome.result.told ≡ true = search rules in
    let became = subst (λ o. BecomesWith (Did g.S.Store.faithful g.S.Store.holds g.S.Store.leaves g.S.Store.says g.L.PrinterLine.did) (RefusesDeliver c.args.machine.now c.args.delivery.now.openings) c.args.machine.now c.args.around.now (asked c.args.delivery.now) (output_of (g.W.ByteOut.written c.args.output.now) (g.W.ByteOut.failed c.args.output.now)) o true c.delivered-outcome.new.machine c.delivered-outcome.new.around (output_of (g.W.ByteOut.written c.delivered-outcome.new.output) (g.W.ByteOut.failed c.delivered-outcome.new.output))) c.in-Told.is (subst (λ t. BecomesWith (Did g.S.Store.faithful g.S.Store.holds g.S.Store.leaves g.S.Store.says g.L.PrinterLine.did) (RefusesDeliver c.args.machine.now c.args.delivery.now.openings) c.args.machine.now c.args.around.now (asked c.args.delivery.now) (output_of (g.W.ByteOut.written c.args.output.now) (g.W.ByteOut.failed c.args.output.now)) c.delivered-outcome.result.outcome t c.delivered-outcome.new.machine c.delivered-outcome.new.around (output_of (g.W.ByteOut.written c.delivered-outcome.new.output) (g.W.ByteOut.failed c.delivered-outcome.new.output))) told c.delivered-outcome.ensures.becomes) in
    ok_so c.tell_if_settled.result
    (λ (done, well). round_goes (Did g.S.Store.faithful g.S.Store.holds g.S.Store.leaves g.S.Store.says g.L.PrinterLine.did) c.args.delivery.now c.args.machine.now c.args.around.now (output_of (g.W.ByteOut.written c.args.output.now) (g.W.ByteOut.failed c.args.output.now)) c.in-Told.note c.delivered-outcome.new.machine c.delivered-outcome.new.around (output_of (g.W.ByteOut.written c.delivered-outcome.new.output) (g.W.ByteOut.failed c.delivered-outcome.new.output)) (output_of (g.W.ByteOut.written c.tell_if_settled.new.output) (g.W.ByteOut.failed c.tell_if_settled.new.output)) became done.0 (record { put = done.1; well = well }))
    (both_ok _ _ c.tell_if_settled.result c.tell_if_settled.ensures.settled c.tell_if_settled.ensures.not_failed)

pub returns-in-Told-clause-ended : goal.returns-in-Told-clause-ended
returns-in-Told-clause-ended g c =
    let told : c.delivered-outcome.result.told ≡ true = search rules in
    let became = subst (λ o. BecomesWith (Did g.S.Store.faithful g.S.Store.holds g.S.Store.leaves g.S.Store.says g.L.PrinterLine.did) (RefusesDeliver c.args.machine.now c.args.delivery.now.openings) c.args.machine.now c.args.around.now (asked c.args.delivery.now) (output_of (g.W.ByteOut.written c.args.output.now) (g.W.ByteOut.failed c.args.output.now)) o true c.delivered-outcome.new.machine c.delivered-outcome.new.around (output_of (g.W.ByteOut.written c.delivered-outcome.new.output) (g.W.ByteOut.failed c.delivered-outcome.new.output))) c.in-Told.is (subst (λ t. BecomesWith (Did g.S.Store.faithful g.S.Store.holds g.S.Store.leaves g.S.Store.says g.L.PrinterLine.did) (RefusesDeliver c.args.machine.now c.args.delivery.now.openings) c.args.machine.now c.args.around.now (asked c.args.delivery.now) (output_of (g.W.ByteOut.written c.args.output.now) (g.W.ByteOut.failed c.args.output.now)) c.delivered-outcome.result.outcome t c.delivered-outcome.new.machine c.delivered-outcome.new.around (output_of (g.W.ByteOut.written c.delivered-outcome.new.output) (g.W.ByteOut.failed c.delivered-outcome.new.output))) told c.delivered-outcome.ensures.becomes) in
    if_err_so c.tell_if_settled.result
    (λ status ends. note_ends (Did g.S.Store.faithful g.S.Store.holds g.S.Store.leaves g.S.Store.says g.L.PrinterLine.did) c.args.delivery.now c.args.machine.now c.args.around.now (output_of (g.W.ByteOut.written c.args.output.now) (g.W.ByteOut.failed c.args.output.now)) c.in-Told.note c.delivered-outcome.new.machine c.delivered-outcome.new.around (output_of (g.W.ByteOut.written c.delivered-outcome.new.output) (g.W.ByteOut.failed c.delivered-outcome.new.output)) (output_of (g.W.ByteOut.written c.tell_if_settled.new.output) (g.W.ByteOut.failed c.tell_if_settled.new.output)) status became ends)
    c.tell_if_settled.ensures.ended

pub returns-in_default : goal.returns-in_default
returns-in_default g c =
    let told : c.delivered-outcome.result.told ≡ true = search rules in
    record {
      recorded = tt;
      ended = round_over (Did g.S.Store.faithful g.S.Store.holds g.S.Store.leaves g.S.Store.says g.L.PrinterLine.did) c.args.delivery.now c.args.machine.now c.args.around.now (output_of (g.W.ByteOut.written c.args.output.now) (g.W.ByteOut.failed c.args.output.now)) c.delivered-outcome.result.outcome c.delivered-outcome.new.machine c.delivered-outcome.new.around (output_of (g.W.ByteOut.written c.delivered-outcome.new.output) (g.W.ByteOut.failed c.delivered-outcome.new.output)) (output_of (g.W.ByteOut.written c.tell.new.output) (g.W.ByteOut.failed c.tell.new.output)) c.tell.result
          (subst (λ t. BecomesWith (Did g.S.Store.faithful g.S.Store.holds g.S.Store.leaves g.S.Store.says g.L.PrinterLine.did) (RefusesDeliver c.args.machine.now c.args.delivery.now.openings) c.args.machine.now c.args.around.now (asked c.args.delivery.now) (output_of (g.W.ByteOut.written c.args.output.now) (g.W.ByteOut.failed c.args.output.now)) c.delivered-outcome.result.outcome t c.delivered-outcome.new.machine c.delivered-outcome.new.around (output_of (g.W.ByteOut.written c.delivered-outcome.new.output) (g.W.ByteOut.failed c.delivered-outcome.new.output))) told c.delivered-outcome.ensures.becomes)
          (λ is. search rules) c.tell.ensures.tells;
      not_hidden = λ some well. c.tell.ensures.not_hidden some (c.delivered-outcome.ensures.not_hidden (search rules) well);
      never_usage = c.tell.ensures.never_usage;
    }
