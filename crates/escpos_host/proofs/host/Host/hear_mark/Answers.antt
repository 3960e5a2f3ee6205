-- An opening mark opens the link.
use Rattle.std.proofs.Common.{◌∙◌, ap, subst, sym, refl}
use Rattle.escpos_host.specs.Heard.{IsNumberOf, opened}
use Rattle.escpos_host.specs.Kept.{view_of}
use Rattle.escpos_host.specs.Machine.{HostView}
use Rattle.escpos_host.proofs.MarkAnswers.{link_opened}
use Rattle.escpos_host.proofs.host.Host.hear_mark.Goals as goal

pub returns-in-Some : goal.returns-in-Some
returns-in-Some c =
    let h = c.self.inside in
    let first = c.in-Opening.first in
    let n = c.in-Some.number in
    let seen = ap (λ s. view_of s h.receipts.items h.recorded h.closing.items h.left.items h.out h.reader h.next h.oldest) (sym c.in-Opening.is) ∙ c.self.view_is in (
      first,
      n,
      c.args.id,
      sym (ap (λ (v : HostView). v.phase) seen),
      refl,
      subst (λ next. IsNumberOf first next c.args.id n) (ap (λ (v : HostView). v.next) c.self.view_is) c.in-Some.ensures,
      link_opened h.stage first n h.receipts.items h.recorded h.closing.items h.left.items h.out h.reader h.next h.oldest c.in-Opening.is c.self.invariant
          ∙ ap (λ v. opened v n) c.self.view_is,
    )
