-- The receipt and its closing mark are put out, after what was there, and the receipt stands before those that are left.
use Rattle.std.proofs.Common.{◌≡◌, ◌∙◌, ◌+◌, ◌≤◌, ◌<◌, ℕ, [], ◌∷◌, ◌++◌, length, drop, refl, sym, ap, subst, arith}
use Rattle.std.specs.List.{insert, remove}
use Rattle.escpos_command.specs.CommandTable.{spell}
use Rattle.escpos_host.specs.declared.host.Stage.TheVariants as stage
use Rattle.escpos_host.specs.declared.outbox.OutPart.TheVariants as part
use Rattle.escpos_host.specs.Kept.{IsConsistent, pairs, put_of, view_of}
use Rattle.escpos_host.specs.Machine.{HostView, HasMark, limit_from, mark_limit, number_limit, submitted}
use Rattle.escpos_host.specs.Out.{unsent, part_commands}
use Rattle.escpos_host.proofs.AnswerFronts.{same_number}
use Rattle.escpos_host.proofs.Pending.{more_receipts}
use Rattle.escpos_host.proofs.Views.{failed, fits_submitted, is_submitted, not_inserted, open_host, remove-insert, room_in_flight, succeeded}
use Rattle.escpos_host.proofs.host.Host.submit.Goals as goal

numbered : (n oldest : ℕ) → n < limit_from oldest → n < number_limit
numbered n oldest few = omega (arith, few)

no_mark : (h : HostView) → (HasMark h → ⊥) → mark_limit h ≤ h.next
no_mark h none = omega (arith, none)

pub returns-then-is_full-clause-refused : goal.returns-then-is_full-clause-refused
returns-then-is_full-clause-refused c =
    let h = c.self.inside in
    let o = open_host h.stage h.receipts.items h.recorded h.closing.items h.left.items h.out h.reader h.next h.oldest c.args.self.now c.in-Open.is c.self.view_is c.self.invariant in (
      (
        pairs (drop h.recorded h.receipts.items) h.closing.items,
        o.phase,
        o.long ∙ same_number (length h.closing.items) 4 (sym c.is_full.ensures.value ∙ c.if-is_full.true),
      ),
      refl,
      refl,
    )

pub returns-in_default-mark_to_put-clause-refused : goal.returns-in_default-mark_to_put-clause-refused
returns-in_default-mark_to_put-clause-refused c =
    let h = c.self.inside in
    let o = open_host h.stage h.receipts.items h.recorded h.closing.items h.left.items h.out h.reader h.next h.oldest c.args.self.now c.in-Open.is c.self.view_is c.self.invariant in
    let few = room_in_flight h.receipts.items h.recorded h.closing.items h.left.items h.out h.reader h.next h.oldest c.args.self.now o (sym c.is_full.ensures.value ∙ c.if-is_full.false) c.is_full.ensures.fits in
    let none = no_mark c.args.self.now (subst (λ v. HasMark v → ⊥) c.self.view_is c.in_default-mark_to_put.ensures) in (
      (pairs (drop h.recorded h.receipts.items) h.closing.items, o.phase, few, none),
      refl,
      refl,
    )

pub invariant_of-self : goal.invariant_of-self
invariant_of-self c =
    let h = c.self.inside in
    subst (λ rs. IsConsistent h.stage rs h.recorded h.closing.items h.left.items h.out h.reader) (sym (c.in-Err.ensures.items)) c.self.invariant

pub returns-in-Err-clause-refused : goal.returns-in-Err-clause-refused
returns-in-Err-clause-refused c =
    let h = c.self.inside in
    let o = open_host h.stage h.receipts.items h.recorded h.closing.items h.left.items h.out h.reader h.next h.oldest c.args.self.now c.in-Open.is c.self.view_is c.self.invariant in
    let few = room_in_flight h.receipts.items h.recorded h.closing.items h.left.items h.out h.reader h.next h.oldest c.args.self.now o (sym c.is_full.ensures.value ∙ c.if-is_full.false) c.is_full.ensures.fits in (
      (pairs (drop h.recorded h.receipts.items) h.closing.items, o.phase, few, subst HasMark c.self.view_is c.in-Some.ensures.0),
      c.in-Err.ensures.value_returned,
      ap (λ rs. view_of h.stage rs h.recorded h.closing.items h.left.items h.out h.reader h.next h.oldest) c.in-Err.ensures.items ∙ c.self.view_is,
    )

pub invariant_of-self-then-is_err : goal.invariant_of-self-then-is_err
invariant_of-self-then-is_err c =
    let h = c.self.inside in
    let n = h.recorded + length h.closing.items in
    let count = c.self.invariant.count in
    let back : c.remove.new.self.items ≡ h.receipts.items =
    c.remove.ensures.items ∙ ap (λ rs. remove rs (h.recorded + c.len.result)) c.in_default-insert.ensures.items
    ∙ ap (λ k. remove (insert h.receipts.items (h.recorded + k) c.args.receipt) (h.recorded + k)) c.len.ensures.value
    ∙ remove-insert n h.receipts.items c.args.receipt (omega (arith, count)) in
    let same = failed c.push.result c.if-is_err.ensures.value c.push.ensures.err in
    subst (λ rs. IsConsistent h.stage rs h.recorded h.closing.items h.left.items c.push.new.self h.reader) (sym back)
    (subst (λ o. IsConsistent h.stage h.receipts.items h.recorded h.closing.items h.left.items o h.reader) (sym same) c.self.invariant)

pub returns-then-is_err-clause-refused : goal.returns-then-is_err-clause-refused
returns-then-is_err-clause-refused c =
    let h = c.self.inside in
    let o = open_host h.stage h.receipts.items h.recorded h.closing.items h.left.items h.out h.reader h.next h.oldest c.args.self.now c.in-Open.is c.self.view_is c.self.invariant in
    let few = room_in_flight h.receipts.items h.recorded h.closing.items h.left.items h.out h.reader h.next h.oldest c.args.self.now o (sym c.is_full.ensures.value ∙ c.if-is_full.false) c.is_full.ensures.fits in
    let n = h.recorded + length h.closing.items in
    let count = c.self.invariant.count in
    let inside : n ≤ length h.receipts.items = omega (arith, count) in
    let back : c.remove.new.self.items ≡ h.receipts.items =
    c.remove.ensures.items ∙ ap (λ rs. remove rs (h.recorded + c.len.result)) c.in_default-insert.ensures.items
    ∙ ap (λ k. remove (insert h.receipts.items (h.recorded + k) c.args.receipt) (h.recorded + k)) c.len.ensures.value ∙ remove-insert n h.receipts.items c.args.receipt inside in
    let same = failed c.push.result c.if-is_err.ensures.value c.push.ensures.err in (
      (pairs (drop h.recorded h.receipts.items) h.closing.items, o.phase, few, subst HasMark c.self.view_is c.in-Some.ensures.0),
      not_inserted h.receipts.items c.insert.new.self.items n (h.recorded + c.len.result) c.args.receipt c.remove.result (ap (λ k. h.recorded + k) c.len.ensures.value) inside
          c.in_default-insert.ensures.items c.remove.ensures.value,
      ap (λ rs. view_of h.stage rs h.recorded h.closing.items h.left.items c.push.new.self h.reader h.next h.oldest) back
          ∙ ap (λ o. view_of h.stage h.receipts.items h.recorded h.closing.items h.left.items o h.reader h.next h.oldest) same ∙ c.self.view_is,
    )

pub invariant_of-self-2 : goal.invariant_of-self-2
invariant_of-self-2 c =
    let h = c.self.inside in
    let r = c.args.receipt in
    let o = open_host h.stage h.receipts.items h.recorded h.closing.items h.left.items h.out h.reader h.next h.oldest c.args.self.now c.in-Open.is c.self.view_is c.self.invariant in
    let n = h.recorded + length h.closing.items in
    let place : h.recorded + c.len.result ≡ n = ap (λ k. h.recorded + k) c.len.ensures.value in
    let is_all : c.insert.new.self.items ≡ insert h.receipts.items n r = c.in_default-insert.ensures.items ∙ ap (λ k. insert h.receipts.items k r) place in
    let base = fits_submitted h.receipts.items h.recorded h.closing.items h.left.items h.out c.push.new.self h.reader h.next r c.in-Some.closing o.fits
    (λ rs before at. succeeded c.push.result c.if-is_err.ensures.value c.push.ensures.within rs before (subst (λ k. k < length rs) (sym place) at)) (numbered h.next h.oldest c.in-Some.ensures.0) in
    subst (λ s. IsConsistent s c.insert.new.self.items h.recorded c.push-2.new.self.items h.left.items c.push.new.self h.reader) (sym c.in-Open.is)
    (subst (λ rs. IsConsistent stage.Open rs h.recorded c.push-2.new.self.items h.left.items c.push.new.self h.reader) (sym is_all)
    (subst (λ ns. IsConsistent stage.Open (insert h.receipts.items n r) h.recorded ns h.left.items c.push.new.self h.reader) (sym c.push-2.ensures.items) base))

pub returns-clause-submitted : goal.returns-clause-submitted
returns-clause-submitted c =
    let h = c.self.inside in
    let o = open_host h.stage h.receipts.items h.recorded h.closing.items h.left.items h.out h.reader h.next h.oldest c.args.self.now c.in-Open.is c.self.view_is c.self.invariant in
    let few = room_in_flight h.receipts.items h.recorded h.closing.items h.left.items h.out h.reader h.next h.oldest c.args.self.now o (sym c.is_full.ensures.value ∙ c.if-is_full.false) c.is_full.ensures.fits in
    let r = c.args.receipt in
    let n = h.recorded + length h.closing.items in
    let all = insert h.receipts.items n r in
    let before = put_of h.receipts.items h.recorded h.closing.items ++ r ∷ [] in
    let place : h.recorded + c.len.result ≡ n = ap (λ k. h.recorded + k) c.len.ensures.value in
    let is_all : c.insert.new.self.items ≡ all = c.in_default-insert.ensures.items ∙ ap (λ k. insert h.receipts.items k r) place in
    let put = succeeded c.push.result c.if-is_err.ensures.value c.push.ensures.unsent before (more_receipts (put_of h.receipts.items h.recorded h.closing.items) (r ∷ []) h.out o.fits.within).1
    ∙ ap (λ k. unsent before h.out ++ spell (part_commands before (part.Receipt k c.in-Some.closing))) place in (
      pairs (drop h.recorded h.receipts.items) h.closing.items,
      o.phase,
      few,
      subst HasMark c.self.view_is c.in-Some.ensures.0,
      ap (λ s. view_of s c.insert.new.self.items h.recorded c.push-2.new.self.items h.left.items c.push.new.self h.reader (h.next + 1) h.oldest) c.in-Open.is
          ∙ ap (λ rs. view_of stage.Open rs h.recorded c.push-2.new.self.items h.left.items c.push.new.self h.reader (h.next + 1) h.oldest) is_all
          ∙ ap (λ ns. view_of stage.Open all h.recorded ns h.left.items c.push.new.self h.reader (h.next + 1) h.oldest) c.push-2.ensures.items
          ∙ is_submitted h.receipts.items h.recorded h.closing.items h.left.items h.out c.push.new.self h.reader h.next h.oldest r c.in-Some.closing o.fits c.in-Some.ensures.1 put
          ∙ ap (λ v. submitted v (pairs (drop h.recorded h.receipts.items) h.closing.items) r) o.is,
    )
