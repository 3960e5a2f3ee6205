-- What is kept first of a receipt.
use Rattle.std.proofs.Common.{inl, refl, ap, sym, subst, arith, rules}
use Rattle.escpos_till.specs.declared.book.Book.{Book}
use Rattle.escpos_till.specs.Book.{HasRoom, IsBookOf}
use Rattle.escpos_till.specs.Contents.{GivesReceipt}
use Rattle.escpos_till.specs.Machine.{Fits, IsNew}
use Rattle.escpos_till.proofs.MachineLemmas.{fits_taking}
use Rattle.escpos_till.proofs.machine.TillMachine.queue.Goals as goal

pub invariant_of-self-2 : goal.invariant_of-self-2
invariant_of-self-2 c =
    let room : HasRoom c.reserve.new.self = search rules in
    let book = c.reserve.ensures.same c.self.invariant.entries c.self.invariant.book in
    let new = subst (λ (b : Book). IsNew b c.args.key) (sym (ap (λ m. m.book) c.self.view_is)) c.in_default-known.ensures in
    record {
      entries = c.self.invariant.entries;
      book = book;
      ledger = c.self.invariant.ledger;
      fits = subst (Fits c.reserve.new.self c.self.invariant.entries) (sym c.taking.ensures)
          (fits_taking c.reserve.new.self c.self.inside.book c.self.invariant.entries c.args.key c.reserve.new.self.last_key c.into_content.result book c.self.invariant.book new
          (omega (arith, c.if-self.false, c.self.invariant.book.count)) room);
    }

pub returns-in-Some-clause-queues : goal.returns-in-Some-clause-queues
returns-in-Some-clause-queues c = record {
  rest = c.in_default.ensures.rest;
  gives = subst GivesReceipt c.receipt.view_is c.receipt.invariant;
  host = ap (λ m. m.host) c.self.view_is;
  book = λ entries book. subst (λ m. IsBookOf m.book entries) (sym c.self.view_is) book;
  goes = inl (c.in-Some.number, c.in-Some.ensures, refl);
}
