-- The host that the handle held is nudged, or refuses.
use Rattle.std.proofs.Common.{◌∙◌, ap, subst, sym, option_map}
use Rattle.escpos_host.specs.Machine.{RefusesNudge}
use Rattle.escpos_c.specs.HostCalls.{Called, Nudges}
use Rattle.escpos_c.specs.Status.{number_of_status}
use Rattle.escpos_c.proofs.Answering.{number_kept}
use Rattle.escpos_c.proofs.OnHandle.{on_handle}
use Rattle.escpos_c.proofs.host.escpos_host_nudge.Goals as goal

pub returns : goal.returns
returns c =
    let new = c.nudge-status.new.self in
    on_handle _ _ c.in-Some.core.value new _ _ (c.take.ensures.value ∙ ap (option_map (λ b. b.value)) c.in-Some.is) c.put.ensures
    (subst (λ z. Called Nudges RefusesNudge z c.nudge-status.new.reason c.in-Some.core.value new) (sym (number_kept _ _ c.number.ensures))
    (subst (λ old. Called Nudges RefusesNudge (number_of_status c.nudge-status.result) c.nudge-status.new.reason old new) c.deref_mut.ensures.value c.nudge-status.ensures))
