-- With no link nothing is to be put out.
use Rattle.std.proofs.Common.{◌++◌, ◌∙◌, sym, ap, subst}
use Rattle.escpos_host.specs.declared.host.Stage.TheVariants as stage
use Rattle.escpos_command.specs.CommandTable.{spell}
use Rattle.escpos_host.specs.Out.{unsent}
use Rattle.escpos_host.specs.Kept.{IsConsistent, put_of, view_of}
use Rattle.escpos_host.specs.Machine.{HostView, HasMark, linked_by}
use Rattle.escpos_host.proofs.Views.{comes_up, fits_with, succeeded}
use Rattle.escpos_host.proofs.host.Host.open.Goals as goal

pub invariant_of-self-2 : goal.invariant_of-self-2
invariant_of-self-2 c =
    let h = c.self.inside in
    let put = put_of h.receipts.items h.recorded h.closing.items in
    let fits : IsConsistent stage.Down h.receipts.items h.recorded h.closing.items h.left.items h.out h.reader =
    subst (λ s. IsConsistent s h.receipts.items h.recorded h.closing.items h.left.items h.out h.reader) c.in-Down.is c.self.invariant in
    fits_with stage.Down (stage.Opening h.next) h.receipts.items h.recorded h.closing.items h.left.items h.out c.push.new.self h.reader fits
    (succeeded c.push.result c.if-is_err.ensures.value c.push.ensures.within put (fits.stage.1 put).0 (c.opening.ensures.placed put)) fits.stage.0

pub returns-clause-up : goal.returns-clause-up
returns-clause-up c =
    let h = c.self.inside in
    let put = put_of h.receipts.items h.recorded h.closing.items in
    let before = ap (λ s. view_of s h.receipts.items h.recorded h.closing.items h.left.items h.out h.reader h.next h.oldest) (sym c.in-Down.is) ∙ c.self.view_is in
    let fits : IsConsistent stage.Down h.receipts.items h.recorded h.closing.items h.left.items h.out h.reader =
    subst (λ s. IsConsistent s h.receipts.items h.recorded h.closing.items h.left.items h.out h.reader) c.in-Down.is c.self.invariant in (
      sym (ap (λ (v : HostView). v.phase) before),
      subst HasMark c.self.view_is c.in-Some.ensures.0,
      comes_up c.args.reporting h.receipts.items h.recorded h.closing.items h.left.items h.out c.push.new.self h.reader h.next h.oldest c.in-Some.mark fits c.in-Some.ensures.1
          (succeeded c.push.result c.if-is_err.ensures.value c.push.ensures.unsent put (fits.stage.1 put).0
          ∙ ap (λ cs. unsent put h.out ++ spell cs) (c.opening.ensures.commands put)) ∙ ap (linked_by c.args.reporting) before,
    )
