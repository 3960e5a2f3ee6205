-- There is a part exactly where there is a byte left.
use Rattle.std.proofs.Common.{◌≡◌, ◌∙◌, ap, subst, sym, length, arith}
use Rattle.std.proofs.lemmas.Grind.{common_steps}
use Rattle.escpos_host.specs.Out.{unsent, Within}
use Rattle.escpos_host.proofs.Pending.{nothing_left, no_part}
use Rattle.escpos_host.proofs.outbox.Out.is_empty.Goals as goal

pub returns : goal.returns
returns c = λ receipts within.
    let inside = c.self.inside in
    let held = subst (λ o. Within receipts o) (sym c.self.view_is) within in
    let same = ap (unsent receipts) c.self.view_is in (
      λ empty. sym same ∙ nothing_left receipts inside.parts.items inside.item inside.from held.in_first (grind (arith, common_steps)),
      λ none. let none_there : length inside.parts.items ≡ 0 = no_part receipts inside.parts.items inside.item inside.from held.in_first (same ∙ none) in grind (arith, common_steps),
    )
