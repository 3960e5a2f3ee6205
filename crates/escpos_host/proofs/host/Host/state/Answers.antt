-- Where a closing mark is still to be answered, a receipt is in flight.
use Rattle.std.proofs.Common.{◌∙◌, drop, sym, ap, subst}
use Rattle.escpos_host.specs.declared.host.Stage.TheVariants as stage
use Rattle.escpos_host.specs.Kept.{IsConsistent, phase_of}
use Rattle.escpos_host.specs.Machine.{HostView, state_of}
use Rattle.escpos_host.proofs.Views.{enough_flying, ready, sending}
use Rattle.escpos_host.proofs.host.Host.state.Goals as goal

pub returns-in-Open-2 : goal.returns-in-Open-2
returns-in-Open-2 c =
    let h = c.self.inside in
    let rest = drop h.recorded h.receipts.items in
    let fits : IsConsistent stage.Open h.receipts.items h.recorded h.closing.items h.left.items h.out h.reader =
    subst (λ s. IsConsistent s h.receipts.items h.recorded h.closing.items h.left.items h.out h.reader) c.in-Open.is c.self.invariant in
    sending rest h.closing.items (enough_flying stage.Open h.receipts.items h.recorded h.closing.items h.left.items h.out h.reader fits) (sym c.is_empty.ensures ∙ c.if-is_empty.false)
    ∙ ap (λ s. state_of (phase_of s rest h.closing.items)) (sym c.in-Open.is) ∙ ap (λ (v : HostView). state_of v.phase) c.self.view_is

pub returns-in-Open : goal.returns-in-Open
returns-in-Open c =
    let h = c.self.inside in
    let rest = drop h.recorded h.receipts.items in
    ready rest h.closing.items (sym c.is_empty.ensures ∙ c.if-is_empty.true)
    ∙ ap (λ s. state_of (phase_of s rest h.closing.items)) (sym c.in-Open.is) ∙ ap (λ (v : HostView). state_of v.phase) c.self.view_is
