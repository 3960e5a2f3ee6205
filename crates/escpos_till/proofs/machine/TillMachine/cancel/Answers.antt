-- A receipt that waits is to be cancelled.
use Rattle.std.proofs.Common.{◌≡◌, ◌∙◌, Some, ap, sym, subst, refl, arith}
use Rattle.escpos_till.specs.declared.entry.Entry.TheVariants as entry
use Rattle.escpos_till.specs.declared.stage.Stage.TheVariants as stage
use Rattle.escpos_till.specs.declared.stage.Then.TheVariants as then
use Rattle.escpos_till.specs.Book.{IsBookOf}
use Rattle.escpos_till.specs.Machine.{at}
use Rattle.escpos_till.proofs.machine.TillMachine.cancel.Goals as goal

pub invariant_of-self : goal.invariant_of-self
invariant_of-self c =
    let waits = c.state.ensures.waits c.self.invariant.entries c.in-Some-Waiting.tried c.self.invariant.book (c.in-Some-Waiting.is ∙ ap Some c.in-Some-Waiting.field-0-is) in
    record {
      entries = c.self.invariant.entries;
      book = c.self.invariant.book;
      ledger = c.self.invariant.ledger;
      fits = (
        waits.0,
        refl,
        omega (arith, c.if-self-ge-MOST_ENTRIES.false, c.self.invariant.book.count),
        λ content is. absurd (let bad : entry.Cancelled c.args.number ≡ entry.Queued content = is in cc),
        λ number next is. absurd (let bad : entry.Cancelled c.args.number ≡ entry.Tried number next = is in cc),
        λ content is. absurd (let bad : then.Cancelled c.args.number c.in-Some-Waiting.tried ≡ then.Take content = is in cc),
        tt,
      );
    }

pub returns-clause-cancels : goal.returns-clause-cancels
returns-clause-cancels c = record {
  rest = c.in_ok-check_rest.ensures.rest;
  tried = c.in-Some-Waiting.tried;
  waits = λ entries book.
      c.state.ensures.waits entries c.in-Some-Waiting.tried (subst (λ m. IsBookOf m.book entries) (sym c.self.view_is) book) (c.in-Some-Waiting.is ∙ ap Some c.in-Some-Waiting.field-0-is);
  after_is = ap (λ m. at m (stage.Keeping (entry.Cancelled c.args.number) (then.Cancelled c.args.number c.in-Some-Waiting.tried))) c.self.view_is;
}
