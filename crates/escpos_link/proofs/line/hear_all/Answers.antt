use Rattle.std.proofs.Common.{subst, drop}
use Rattle.escpos_host.specs.Heard.{IsHeard}
use Rattle.escpos_link.proofs.HeardInTurn.{all_heard, ended, next, on_goes, rest_is}
use Rattle.escpos_link.proofs.line.hear_all.Goals as goal

pub returns-in-None-clause-heard : goal.returns-in-None-clause-heard
returns-in-None-clause-heard c =
    let s = c.loop-event.invariant in
    let rest = subst (λ bs. IsHeard c.loop-event.host bs c.heard-heard.result.consumed c.heard-heard.result.event c.heard-heard.new.self)
    (rest_is c.args.bytes.now c.loop-event.consumed) (c.heard-heard.ensures.up s.up) in
    let heard = all_heard c.args.host.now c.loop-event.host c.heard-heard.new.self c.args.bytes.now c.loop-event.consumed c.heard-heard.result.consumed c.loop-event.last s
    (subst (λ e. IsHeard c.loop-event.host (drop c.loop-event.consumed c.args.bytes.now) c.heard-heard.result.consumed e c.heard-heard.new.self) c.in-None.is rest) in
    (heard.events, heard.hears, heard.is_told)

pub returns-in-BadAnswer-clause-heard : goal.returns-in-BadAnswer-clause-heard
returns-in-BadAnswer-clause-heard c =
    let s = c.loop-event.invariant in
    let rest = subst (λ bs. IsHeard c.loop-event.host bs c.heard-heard.result.consumed c.heard-heard.result.event c.heard-heard.new.self)
    (rest_is c.args.bytes.now c.loop-event.consumed) (c.heard-heard.ensures.up s.up) in
    let heard = ended c.args.host.now c.loop-event.host c.heard-heard.new.self c.args.bytes.now c.loop-event.consumed c.heard-heard.result.consumed c.in-BadAnswer.at c.loop-event.last s
    (subst (λ e. IsHeard c.loop-event.host (drop c.loop-event.consumed c.args.bytes.now) c.heard-heard.result.consumed e c.heard-heard.new.self) c.in-BadAnswer.is rest) in
    (heard.events, heard.hears, heard.is_told)

pub loop-event-preserved : goal.loop-event-preserved
loop-event-preserved c =
    let s = c.loop-event.invariant in
    let rest = subst (λ bs. IsHeard c.loop-event.host bs c.heard-heard.result.consumed c.heard-heard.result.event c.heard-heard.new.self)
    (rest_is c.args.bytes.now c.loop-event.consumed) (c.heard-heard.ensures.up s.up) in
    let on = on_goes c.heard-heard.result.event (λ at e. c.in_default.not-BadAnswer at e) in
    let step = c.one_event.ensures c.loop-event.host c.heard-heard.new.self (drop c.loop-event.consumed c.args.bytes.now) c.heard-heard.result.consumed c.heard-heard.result.event s.up on rest in
    next c.args.host.now c.loop-event.host c.heard-heard.new.self c.args.bytes.now c.loop-event.consumed c.heard-heard.result.consumed c.loop-event.last c.heard-heard.result.event s
    c.in_default.not-None on step.0 step.1 rest
