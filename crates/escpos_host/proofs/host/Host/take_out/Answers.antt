-- With no link there is nothing to take out; otherwise the parts are those of the receipts that were put.
use Rattle.std.proofs.Common.{◌≡◌, ◌∙◌, ◌+◌, [], ◌++◌, length, take, drop, min, sym, ap, subst, arith}
use Rattle.escpos_host.specs.declared.host.Stage.TheVariants as stage
use Rattle.escpos_host.specs.Kept.{IsConsistent, put_of}
use Rattle.escpos_host.specs.Machine.{HostView, taken_out}
use Rattle.escpos_host.specs.Out.{Within, unsent}
use Rattle.escpos_host.proofs.Views.{fits_taken, is_taken, well_placed}
use Rattle.escpos_host.proofs.host.Host.take_out.Goals as goal

pub returns-in-Down-clause-count : goal.returns-in-Down-clause-count
returns-in-Down-clause-count c =
    let h = c.self.inside in
    let fits : IsConsistent stage.Down h.receipts.items h.recorded h.closing.items h.left.items h.out h.reader =
    subst (λ s. IsConsistent s h.receipts.items h.recorded h.closing.items h.left.items h.out h.reader) c.in-Down.is c.self.invariant in
    let nothing : c.args.self.now.out ≡ [] = sym (ap (λ (v : HostView). v.out) c.self.view_is) ∙ (fits.stage.1 (put_of h.receipts.items h.recorded h.closing.items)).1 in
    omega (arith, ap length nothing)

pub take_out-requires : goal.take_out-requires
take_out-requires c =
    let h = c.self.inside in
    let put : take (h.recorded + c.len.result) c.deref.result.now ≡ put_of h.receipts.items h.recorded h.closing.items =
    ap (λ n. take (h.recorded + n) c.deref.result.now) c.len.ensures.value ∙ ap (take (h.recorded + length h.closing.items)) c.deref.ensures.value in
    subst (λ rs. Within rs h.out) (sym put) (well_placed h.stage h.receipts.items h.recorded h.closing.items h.left.items h.out h.reader c.self.invariant)

pub invariant_of-self : goal.invariant_of-self
invariant_of-self c =
    let h = c.self.inside in
    let put : take (h.recorded + c.len.result) c.deref.result.now ≡ put_of h.receipts.items h.recorded h.closing.items =
    ap (λ n. take (h.recorded + n) c.deref.result.now) c.len.ensures.value ∙ ap (take (h.recorded + length h.closing.items)) c.deref.ensures.value in
    fits_taken h.stage h.receipts.items h.recorded h.closing.items h.left.items h.out c.take_out.new.self h.reader c.in_default.not-Down c.self.invariant
    (subst (λ rs. Within rs c.take_out.new.self) put c.take_out.ensures.within)

pub returns : goal.returns
returns c =
    let h = c.self.inside in
    let put : take (h.recorded + c.len.result) c.deref.result.now ≡ put_of h.receipts.items h.recorded h.closing.items =
    ap (λ n. take (h.recorded + n) c.deref.result.now) c.len.ensures.value ∙ ap (take (h.recorded + length h.closing.items)) c.deref.ensures.value in
    let all = put_of h.receipts.items h.recorded h.closing.items in
    let shown : unsent (take (h.recorded + c.len.result) c.deref.result.now) h.out ≡ c.args.self.now.out = ap (λ rs. unsent rs h.out) put ∙ ap (λ (v : HostView). v.out) c.self.view_is in
    let count = c.take_out.result in
    let rest : unsent all c.take_out.new.self ≡ drop count (unsent all h.out) =
    ap (λ rs. unsent rs c.take_out.new.self) (sym put) ∙ c.take_out.ensures.unsent ∙ ap (λ rs. drop count (unsent rs h.out)) put in
    record {
      count = c.take_out.ensures.count ∙ ap (λ bs. min (length c.args.out.now) (length bs)) shown;
      copied = c.take_out.ensures.copied ∙ ap (λ bs. take count bs ++ drop count c.args.out.now) shown;
      taken = is_taken h.stage h.receipts.items h.recorded h.closing.items h.left.items h.out c.take_out.new.self h.reader h.next h.oldest count rest ∙ ap (λ v. taken_out v count) c.self.view_is;
    }
