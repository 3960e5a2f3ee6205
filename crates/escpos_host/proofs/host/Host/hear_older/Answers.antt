-- Of those that are left the receipts up to the one whose closing mark it is are recorded, and any other mark is told.
use Rattle.std.proofs.Common.{◌≡◌, ◌∙◌, ◌+◌, ◌-◌, inl, inr, length, drop, refl, sym, ap, subst, arith}
use Rattle.escpos_host.specs.declared.host.Stage.TheVariants as stage
use Rattle.escpos_host.specs.Heard.{IsClosing, IsMarkFrom, IsNumberOf, RecordsUpTo, heard_late}
use Rattle.escpos_host.specs.Kept.{HasIdAmong, IsConsistent, IsPlaceOf, view_of}
use Rattle.escpos_host.specs.Machine.{HostView}
use Rattle.escpos_host.proofs.MarkAnswers.{fits_left_recorded, is_other, left_recorded, stage_opening}
use Rattle.escpos_host.proofs.host.Host.hear_older.Goals as goal
use Rattle.escpos_host.proofs.host.Host.hear_older.Goals.{in-Some-number_of, in_default}

pub invariant_of-self : goal.invariant_of-self
invariant_of-self c =
    let h = c.self.inside in
    let first = c.args.first in
    let up : h.stage ≡ stage.Opening first = stage_opening h.stage (drop h.recorded h.receipts.items) h.closing.items first (ap (λ (v : HostView). v.phase) c.self.view_is ∙ c.requires.0) in
    let fits : IsConsistent (stage.Opening first) h.receipts.items h.recorded h.closing.items h.left.items h.out h.reader =
    subst (λ s. IsConsistent s h.receipts.items h.recorded h.closing.items h.left.items h.out h.reader) up c.self.invariant in
    let is = subst (λ ns. IsPlaceOf h.oldest ns c.args.id c.in-Some.place) c.as_slice.ensures.value c.in-Some.ensures in
    subst (λ s. IsConsistent s h.receipts.items (h.recorded + (c.in-Some.place + 1)) h.closing.items c.remove_first.new.numbers.items h.out h.reader) (sym up)
    (fits_left_recorded first h.receipts.items h.recorded h.closing.items h.left.items h.out h.reader c.in-Some.place c.remove_first.new.numbers.items fits is.within c.remove_first.ensures.rest)

pub returns-in-Some : goal.returns-in-Some
returns-in-Some c =
    let h = c.self.inside in
    let first = c.args.first in
    let place = c.in-Some.place in
    let fewer = c.remove_first.new.numbers.items in
    let up : h.stage ≡ stage.Opening first = stage_opening h.stage (drop h.recorded h.receipts.items) h.closing.items first (ap (λ (v : HostView). v.phase) c.self.view_is ∙ c.requires.0) in
    let fits : IsConsistent (stage.Opening first) h.receipts.items h.recorded h.closing.items h.left.items h.out h.reader =
    subst (λ s. IsConsistent s h.receipts.items h.recorded h.closing.items h.left.items h.out h.reader) up c.self.invariant in
    let is = subst (λ ns. IsPlaceOf h.oldest ns c.args.id place) c.as_slice.ensures.value c.in-Some.ensures in
    let seen = ap (λ s. view_of s h.receipts.items h.recorded h.closing.items h.left.items h.out h.reader h.next h.oldest) (sym up) ∙ c.self.view_is in
    let other = subst (λ n. IsMarkFrom first n c.args.id → ⊥) (sym (ap (λ (v : HostView). v.next) c.self.view_is)) c.requires.1 in
    let r = left_recorded first h.receipts.items h.recorded h.closing.items h.left.items h.out h.reader h.next h.oldest place c.args.id fewer fits is other c.remove_first.ensures.rest in
    let last : h.recorded + place ≡ h.recorded + (place + 1) - 1 = omega arith in
    let up_to = c.remove_first.result + 1 in (
      c.args.id,
      refl,
      subst (λ n. RecordsUpTo c.args.self.now c.args.id n (view_of h.stage h.receipts.items (h.recorded + (place + 1)) h.closing.items fewer h.out h.reader h.next up_to)) last
          (subst (λ v. RecordsUpTo v c.args.id (h.recorded + place) (view_of h.stage h.receipts.items (h.recorded + (place + 1)) h.closing.items fewer h.out h.reader h.next up_to)) seen
          (subst (λ s. RecordsUpTo (view_of (stage.Opening first) h.receipts.items h.recorded h.closing.items h.left.items h.out h.reader h.next h.oldest) c.args.id (h.recorded + place)
          (view_of s h.receipts.items (h.recorded + (place + 1)) h.closing.items fewer h.out h.reader h.next up_to)) (sym up)
          (subst (λ n. RecordsUpTo (view_of (stage.Opening first) h.receipts.items h.recorded h.closing.items h.left.items h.out h.reader h.next h.oldest) c.args.id (h.recorded + place)
          (view_of (stage.Opening first) h.receipts.items (h.recorded + (place + 1)) h.closing.items fewer h.out h.reader h.next (n + 1))) (sym c.remove_first.ensures.number) r))),
    )

pub returns-after-number_of : goal.returns-after-number_of
returns-after-number_of c =
    let h = c.self.inside in (
      c.args.first,
      c.requires.0,
      refl,
      c.requires.1,
      subst (λ (v : HostView). IsClosing v.heard v.left c.args.id → ⊥) c.self.view_is
          (is_other h.oldest (drop (h.recorded + length h.closing.items) h.receipts.items) h.left.items c.args.id
          (λ among. c.in-None.ensures (subst (λ ks. HasIdAmong h.oldest ks c.args.id) (sym c.as_slice.ensures.value) among))),
      elim c.match-number_of.branch [
        | in-Some-number_of w ↦ inl (
          w.in-Some-number_of.number,
          subst (λ (v : HostView). IsNumberOf v.heard c.args.first c.args.id w.in-Some-number_of.number) c.self.view_is w.in-Some-number_of.ensures,
          w.self-is ∙ ap (λ v. heard_late v w.in-Some-number_of.number) c.self.view_is,
        )
        | in_default w ↦ inr (subst (λ (v : HostView). IsMarkFrom v.heard c.args.first c.args.id → ⊥) c.self.view_is w.in_default.ensures, w.self-is)
      ],
    )
