-- Each byte is heard after what passed before it.
use Rattle.std.proofs.Common.{◌≡◌, ◌∙◌, ◌⊎◌, [], get_or, take, refl, inr, sym, ap, subst}
use Rattle.std.proofs.lemmas.List.{take_more}
use Rattle.escpos_command.specs.Answers.{HalfAnswer}
use Rattle.escpos_host.specs.declared.host.HostEvent.TheVariants as event
use Rattle.escpos_host.specs.Heard.{HearsByte, Passed}
use Rattle.escpos_host.specs.Machine.{HostView}
use Rattle.escpos_host.proofs.Passing.{none_passed, one_more_passed}
use Rattle.escpos_host.proofs.Views.{is_up}
use Rattle.escpos_command.proofs.AnswerReadings.{joined}
use Rattle.escpos_host.proofs.host.Host.heard.Goals as goal

pub loop-at-init : goal.loop-at-init
loop-at-init c =
    let h = c.self.inside in
    let sound = subst (λ half. (half ≡ []) ⊎ HalfAnswer half) (ap (λ (v : HostView). v.half) c.self.view_is) c.is_sound.ensures in
    record {
      up = λ e. is_up h.stage h.receipts.items h.recorded h.closing.items h.left.items h.out h.reader h.next h.oldest c.in_default.not-Down (ap (λ (v : HostView). v.phase) c.self.view_is ∙ e);
      passed = none_passed c.args.self.now sound;
      same = refl;
    }

pub returns-in-BadAnswer : goal.returns-in-BadAnswer
returns-in-BadAnswer c =
    let at = c.loop-at.at in
    let half = c.loop-at.self.half in
    let heard = subst (λ h. HearsByte h (get_or c.args.bytes.now at 0) at (event.BadAnswer c.in-BadAnswer.place) c.hear_byte.new.self) c.loop-at.invariant.same c.in-BadAnswer.ensures in
    record {
      down = λ e. absurd (c.loop-at.invariant.up e);
      up = λ _. inr (at, half, c.loop-at-test.true, λ e. cc e, refl, c.loop-at.invariant.passed, heard);
    }

pub loop-at-preserved : goal.loop-at-preserved
loop-at-preserved c =
    let at = c.loop-at.at in
    let bytes = c.args.bytes.now in
    let byte = get_or bytes at 0 in
    let half = c.loop-at.self.half in
    let heard = subst (λ h. HearsByte h byte at event.None c.hear_byte.new.self) c.loop-at.invariant.same c.in-None.ensures in
    let on = one_more_passed joined c.args.self.now c.hear_byte.new.self (take at bytes) half byte at c.loop-at.invariant.passed heard in
    let longer = take_more bytes at 0 c.loop-at-test.true in
    record {
      up = c.loop-at.invariant.up;
      passed = subst (λ bs. Passed c.args.self.now bs c.hear_byte.new.self.half) (sym longer) on.passed;
      same = on.same;
    }
