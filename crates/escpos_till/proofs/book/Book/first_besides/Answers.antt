-- The first receipt that waits but for one.
use Rattle.std.proofs.Common.{◌+◌, ◌-◌, List, ap, slice_get, sym, ◌∙◌, subst, arith}
use Rattle.escpos_till.specs.declared.state.ReceiptState.{ReceiptState}
use Rattle.escpos_till.specs.States.{IsFirstBesides, IsFirstWaiting}
use Rattle.escpos_till.proofs.BookLemmas.{contents_so, others_found}
use Rattle.escpos_till.proofs.book.Book.first_besides.Goals as goal

pub first_besides-requires : goal.first_besides-requires
first_besides-requires c =
    let (entries, book) = c.requires in
    subst (λ (ss : List ReceiptState). IsFirstWaiting ss c.args.self.now.first_waiting) (sym c.deref.ensures.value) book.first_waiting

pub waiting_at-requires-clause-waits : goal.waiting_at-requires-clause-waits
waiting_at-requires-clause-waits c s is = c.first_besides.ensures.waits s (ap (λ (ss : List ReceiptState). slice_get ss c.first_besides.result) c.deref.ensures.value ∙ is)

pub waiting_at-requires-clause-contents : goal.waiting_at-requires-clause-contents
waiting_at-requires-clause-contents c =
    let (entries, book) = c.requires in
    contents_so c.args.self.now entries book

pub returns : goal.returns
returns c = record {
  first = λ entries heard book follows.
      let first = subst (λ (ss : List ReceiptState). IsFirstBesides ss (c.args.number - (1 + c.args.self.now.earlier)) c.first_besides.result) c.deref.ensures.value
      (subst (λ n. IsFirstBesides c.deref.result.now n c.first_besides.result) (omega (arith, c.saturating_sub-place.ensures, c.get.ensures.value)) c.first_besides.ensures) in
      others_found c.args.self.now entries c.args.number heard c.first_besides.result c.waiting_at.result book first follows.0 c.waiting_at.ensures;
}
