-- One more mark is put out, and nothing else changes.
use Rattle.std.proofs.Common.{◌∙◌, ◌+◌, sym, ap, subst}
use Rattle.escpos_host.specs.Kept.{put_of, view_of}
use Rattle.escpos_host.specs.Machine.{HostView, HasMark, IsOpening, nudged}
use Rattle.escpos_host.proofs.Views.{is_nudged, succeeded, well_placed}
use Rattle.escpos_host.proofs.host.Host.nudge.Goals as goal

pub returns-clause-nudged : goal.returns-clause-nudged
returns-clause-nudged c =
    let h = c.self.inside in
    let first = c.in-Opening.first in
    let before = ap (λ s. view_of s h.receipts.items h.recorded h.closing.items h.left.items h.out h.reader h.next h.oldest) (sym c.in-Opening.is) ∙ c.self.view_is in
    let within = well_placed h.stage h.receipts.items h.recorded h.closing.items h.left.items h.out h.reader c.self.invariant in (
      subst (λ (v : HostView). IsOpening v.phase) before tt,
      subst HasMark c.self.view_is c.in-Some.ensures.0,
      ap (λ s. view_of s h.receipts.items h.recorded h.closing.items h.left.items c.push.new.self h.reader (h.next + 1) h.oldest) c.in-Opening.is
          ∙ is_nudged h.receipts.items h.recorded h.closing.items h.left.items first h.out c.push.new.self h.reader h.next h.oldest c.in-Some.mark c.in-Some.ensures.1
          (succeeded c.push.result c.if-is_err.ensures.value c.push.ensures.unsent (put_of h.receipts.items h.recorded h.closing.items) within) ∙ ap nudged before,
    )
