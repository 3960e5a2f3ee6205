-- What followed the call is what came of it.
use Rattle.std.proofs.Common.{subst, true}
use Rattle.escpos_tcp_jobs.specs.declared.send.TheConstants.{ANSWERS_LIMIT}
use Rattle.escpos_till.specs.Machine.{Delivers, RefusesDeliver}
use Rattle.escpos_till.specs.Surroundings.{Did}
use Rattle.escpos_till_jobs.specs.Delivering.{asked}
use Rattle.escpos_till_jobs.specs.Outputs.{output_of}
use Rattle.escpos_till_jobs.proofs.Telling.{became_with}
use Rattle.escpos_till_jobs.proofs.deliver.delivered.Goals as goal

pub returns-in-Ok-clause-becomes : goal.returns-in-Ok-clause-becomes
returns-in-Ok-clause-becomes g c =
    became_with (Did g.S.Store.faithful g.S.Store.holds g.S.Store.leaves g.S.Store.says g.L.PrinterLine.did) (RefusesDeliver c.args.machine.now c.args.delivery.now.openings) c.args.machine.now _ c.args.around.now (asked c.args.delivery.now) (output_of (g.W.ByteOut.written c.args.output.now) (g.W.ByteOut.failed c.args.output.now)) c.follow_telling.result.outcome c.follow_telling.result.told
    c.follow_telling.new.machine c.follow_telling.new.around (output_of (g.W.ByteOut.written c.follow_telling.new.output) (g.W.ByteOut.failed c.follow_telling.new.output))
    (subst (λ copy. Delivers c.args.machine.now c.args.delivery.now.openings ANSWERS_LIMIT copy true c.deliver.new.self) c.as_ref.ensures.value c.in-Ok.ensures.delivers, c.is_sound.ensures.receipt) c.follow_telling.ensures.follows
