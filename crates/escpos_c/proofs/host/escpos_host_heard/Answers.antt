-- The host that the handle held hears the bytes.
use Rattle.std.proofs.Common.{◌∙◌, ap, subst, option_map}
use Rattle.escpos_c.specs.HostCalls.{HearsBytes}
use Rattle.escpos_c.specs.declared.call_status.CallStatus.TheVariants.{Good}
use Rattle.escpos_c.proofs.Answering.{number_kept}
use Rattle.escpos_c.proofs.OnHandle.{on_handle}
use Rattle.escpos_c.proofs.host.escpos_host_heard.Goals as goal

pub returns : goal.returns
returns c =
    let told = c.hear-told.result in
    let new = c.hear-told.new.self in
    on_handle _ _ c.in-Some.core.value new _ _ (c.take.ensures.value ∙ ap (option_map (λ b. b.value)) c.in-Some.is) c.put.ensures (
      number_kept Good _ c.number-2.ensures,
      subst (λ old. HearsBytes c.args.bytes.now told.consumed told.event told.number old new) c.deref_mut.ensures.value c.hear-told.ensures,
    )
