-- Each event is heard after what was overlooked before it.
use Rattle.std.proofs.Common.{◌≡◌, ◌<◌, ◌≤◌, ◌+◌, true, false, arith, length, take, refl, sym, ◌∙◌, ap}
use Rattle.escpos_host.specs.Awaits.{Overlooked, waited}
use Rattle.escpos_host.specs.Machine.{HostView}
use Rattle.escpos_host.proofs.Waiting.{hears_out, overlooked_none, told_on}
use Rattle.escpos_command.proofs.AnswerReadings.{joined}
use Rattle.escpos_host.proofs.send.hear.Goals as goal

pub loop-heard-init : goal.loop-heard-init
loop-heard-init c = record { up = c.requires; inside = omega arith; overlooked = overlooked_none c.args.host.now c.is_sound.ensures.half; same = refl }

next : (c : goal.Then-is_overlooked)
    → (c.loop-heard.taken + c.heard-heard.result.consumed ≤ length c.args.bytes.now)
    × Overlooked c.args.host.now (take (c.loop-heard.taken + c.heard-heard.result.consumed) c.args.bytes.now) c.heard-heard.new.self.half
    × (c.heard-heard.new.self ≡ waited c.args.host.now c.heard-heard.new.self.half c.heard-heard.new.self.heard) × (0 < c.heard-heard.result.consumed)
next c =
    told_on joined c.args.host.now c.loop-heard.host c.heard-heard.new.self c.args.bytes.now c.loop-heard.taken c.heard-heard.result.consumed c.heard-heard.result.event
    (c.is_overlooked.ensures.0 c.if-is_overlooked.true)
    c.loop-heard.invariant.inside c.loop-heard.invariant.overlooked c.loop-heard.invariant.same
    (c.heard-heard.ensures.up (λ e. c.loop-heard.invariant.up (sym (ap (λ (v : HostView). v.phase) c.loop-heard.invariant.same) ∙ e)))

pub loop-heard-preserved : goal.loop-heard-preserved
loop-heard-preserved c = let on = next c in record { up = c.loop-heard.invariant.up; inside = on.0; overlooked = on.1; same = on.2 }

pub loop-heard-smaller : goal.loop-heard-smaller
loop-heard-smaller c = let on = next c in let within = on.0 in let some = on.3 in omega (arith, within, some)

pub returns-in-loop-heard : goal.returns-in-loop-heard
returns-in-loop-heard c =
    hears_out joined c.args.host.now c.loop-heard.host c.heard-heard.new.self c.args.bytes.now c.loop-heard.taken c.heard-heard.result.consumed c.heard-heard.result.event
    c.loop-heard.invariant.inside c.loop-heard.invariant.overlooked c.loop-heard.invariant.same
    (λ over. let bad : true ≡ false = sym (c.is_overlooked.ensures.1 over) ∙ c.if-is_overlooked.false in cc)
    (c.heard-heard.ensures.up (λ e. c.loop-heard.invariant.up (sym (ap (λ (v : HostView). v.phase) c.loop-heard.invariant.same) ∙ e)))
