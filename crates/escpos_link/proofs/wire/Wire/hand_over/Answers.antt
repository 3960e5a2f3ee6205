use Rattle.std.proofs.Common.{◌≡◌, ◌==◌, true, false, refl, sym, ◌∙◌, ap}
use Rattle.escpos_link.proofs.Moving.{has_link, lost_seen}
use Rattle.escpos_link.proofs.wire.Wire.hand_over.Goals as goal

pub returns-then-not-is_empty-clause-happened : goal.returns-then-not-is_empty-clause-happened
returns-then-not-is_empty-clause-happened c =
    lost_seen _ _ _ c.take_answer.new.self c.self.view_is refl (λ none. c.if-waiting-eq0.false (c.waiting.ensures.value ∙ none))
    (has_link c.self.inside.ended.items _ c.self.inside.ended.ok.0
    (λ none. let bad : true ≡ false = ap (λ n. n == 0) (sym none) ∙ sym c.is_empty.ensures ∙ c.if-not-is_empty.true in cc)) c.take_answer.ensures.left
