-- The receipts up to the one whose closing mark it is are recorded, and any other mark is ignored.
use Rattle.std.proofs.Common.{◌≡◌, ◌∙◌, ◌+◌, ◌-◌, drop, refl, sym, ap, subst, arith}
use Rattle.escpos_host.specs.declared.host.Stage.TheVariants as stage
use Rattle.escpos_host.specs.Heard.{IgnoresMark, RecordsUpTo}
use Rattle.escpos_host.specs.Kept.{HasIdAmong, IsConsistent, IsPlaceOf, view_of}
use Rattle.escpos_host.specs.Machine.{HostView}
use Rattle.escpos_host.proofs.MarkAnswers.{fits_flight_recorded, flight_recorded, is_other, open_phased, stage_open}
use Rattle.escpos_host.proofs.host.Host.hear_closing.Goals as goal

pub invariant_of-self : goal.invariant_of-self
invariant_of-self c =
    let h = c.self.inside in
    let marks = h.closing.items in
    let up : h.stage ≡ stage.Open = stage_open h.stage (drop h.recorded h.receipts.items) marks c.requires.0 (ap (λ (v : HostView). v.phase) c.self.view_is ∙ c.requires.1) in
    let o = open_phased h.stage h.receipts.items h.recorded marks h.left.items h.out h.reader h.next h.oldest c.args.self.now c.requires.0 c.self.view_is c.requires.1 c.self.invariant in
    let is = subst (λ ns. IsPlaceOf 0 ns c.args.id c.in-Some.place) c.as_slice.ensures.value c.in-Some.ensures in
    subst (λ s. IsConsistent s h.receipts.items (h.recorded + (c.in-Some.place + 1)) c.remove_first.new.numbers.items h.left.items h.out h.reader) (sym up)
    (fits_flight_recorded h.receipts.items h.recorded marks h.left.items h.out h.reader c.in-Some.place c.remove_first.new.numbers.items o.fits is.within c.remove_first.ensures.rest)

pub returns-in-Some : goal.returns-in-Some
returns-in-Some c =
    let h = c.self.inside in
    let marks = h.closing.items in
    let place = c.in-Some.place in
    let fewer = c.remove_first.new.numbers.items in
    let up : h.stage ≡ stage.Open = stage_open h.stage (drop h.recorded h.receipts.items) marks c.requires.0 (ap (λ (v : HostView). v.phase) c.self.view_is ∙ c.requires.1) in
    let o = open_phased h.stage h.receipts.items h.recorded marks h.left.items h.out h.reader h.next h.oldest c.args.self.now c.requires.0 c.self.view_is c.requires.1 c.self.invariant in
    let is = subst (λ ns. IsPlaceOf 0 ns c.args.id place) c.as_slice.ensures.value c.in-Some.ensures in
    let r = flight_recorded h.receipts.items h.recorded marks h.left.items h.out h.reader h.next h.oldest place c.args.id fewer o.fits is c.remove_first.ensures.rest in
    let last : h.recorded + place ≡ h.recorded + (place + 1) - 1 = omega arith in
    let up_to = c.remove_first.result + 1 in (
      c.args.id,
      refl,
      subst (λ n. RecordsUpTo c.args.self.now c.args.id n (view_of h.stage h.receipts.items (h.recorded + (place + 1)) fewer h.left.items h.out h.reader h.next up_to)) last
          (subst (λ v. RecordsUpTo v c.args.id (h.recorded + place) (view_of h.stage h.receipts.items (h.recorded + (place + 1)) fewer h.left.items h.out h.reader h.next up_to)) o.is
          (subst (λ s. RecordsUpTo (view_of stage.Open h.receipts.items h.recorded marks h.left.items h.out h.reader h.next h.oldest) c.args.id (h.recorded + place)
          (view_of s h.receipts.items (h.recorded + (place + 1)) fewer h.left.items h.out h.reader h.next up_to)) (sym up)
          (subst (λ n. RecordsUpTo (view_of stage.Open h.receipts.items h.recorded marks h.left.items h.out h.reader h.next h.oldest) c.args.id (h.recorded + place)
          (view_of stage.Open h.receipts.items (h.recorded + (place + 1)) fewer h.left.items h.out h.reader h.next (n + 1))) (sym c.remove_first.ensures.number) r))),
    )

pub returns-in-None : goal.returns-in-None
returns-in-None c =
    let h = c.self.inside in
    let marks = h.closing.items in
    let o = open_phased h.stage h.receipts.items h.recorded marks h.left.items h.out h.reader h.next h.oldest c.args.self.now c.requires.0 c.self.view_is c.requires.1 c.self.invariant in (
      subst (λ p. IgnoresMark p c.args.self.now.next c.args.id) (sym o.phase) (is_other 0 (drop h.recorded h.receipts.items) marks c.args.id
          (λ among. c.in-None.ensures (subst (λ ks. HasIdAmong 0 ks c.args.id) (sym c.as_slice.ensures.value) among))),
      refl,
    )
