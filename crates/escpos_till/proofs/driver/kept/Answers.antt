-- One entry after the other.
use Rattle.std.proofs.Common.{◌∙◌, ap, refl, sym}
use Rattle.std.specs.Prelude.{is_some}
use Rattle.escpos_till.specs.Machine.{entry_with_at}
use Rattle.escpos_till.proofs.DriverLemmas.{kept_both}
use Rattle.escpos_till.proofs.driver.kept.Goals as goal

pub returns-then-both : goal.returns-then-both
returns-then-both c = λ e next is.
    kept_both c.args.machine.now c.appended.new.self c.appended-then-both.new.self e next is (ap (λ s. is_some (entry_with_at s)) (sym is) ∙ sym c.requires ∙ c.if-both.true)
    (c.appended.ensures.kept refl) c.is_sound.ensures.host (c.appended-then-both.ensures.kept refl)
