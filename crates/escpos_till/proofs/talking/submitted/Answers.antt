-- A refusal gives the link up.
use Rattle.escpos_till.proofs.MachineLemmas.{drops_from, refuses_so}
use Rattle.escpos_till.proofs.talking.submitted.Goals as goal

pub returns-in-Err : goal.returns-in-Err
returns-in-Err c =
    let (refuses, from) = c.in-Err.ensures.refused in
    refuses_so c.args.talk c.args.talk.receipt c.in-Some.receipt c.args.left c.args.host.now c.given_up.new.host c.given_up.result c.in-Err.why c.in-Some.is c.if-left-gt0.true refuses
    (drops_from c.args.host.now c.sent.new.host c.given_up.new.host from c.given_up.ensures.host) c.given_up.ensures.stage
