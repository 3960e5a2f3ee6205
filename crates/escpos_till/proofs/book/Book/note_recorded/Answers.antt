-- One more receipt is recorded.
use Rattle.std.proofs.Common.{◌∙◌, List, max, ap, slice_get, sym, subst, refl, arith}
use Rattle.escpos_till.specs.States.{IsFirstWaiting}
use Rattle.escpos_till.specs.declared.state.ReceiptState.{ReceiptState}
use Rattle.escpos_till.specs.declared.state.ReceiptState.TheVariants as state
use Rattle.escpos_till.proofs.EntryLemmas.{few_records}
use Rattle.escpos_till.proofs.BookLemmas.{book_after_recorded, within_contents, within_items}
use Rattle.escpos_till.proofs.StateLemmas.{passed_after_end}
use Rattle.escpos_till.proofs.book.Book.note_recorded.Goals as goal

pub index_mut-requires-2 : goal.index_mut-requires-2
index_mut-requires-2 c =
    let (entries, book, ledger, waits, few) = c.requires.follows in
    omega (arith, within_contents c.args.self.now entries c.args.number c.place-place.result book (waits.0) c.place-place.ensures)

pub overflow_add-self : goal.overflow_add-self
overflow_add-self c =
    let (entries, book, ledger, waits, few) = c.requires.follows in
    omega (arith, book.recorded, few, few_records entries)

pub first_waiting_from-self-requires-clause-passed :
    goal.first_waiting_from-self-requires-clause-passed
first_waiting_from-self-requires-clause-passed c k s before is =
    passed_after_end c.args.self.now.states.items c.args.self.now.first_waiting c.place-place.result (state.Recorded c.args.self.now.recorded) tt c.requires.follows.1.first_waiting k s before
    (ap (λ (ss : List ReceiptState). slice_get ss k) (sym c.deref.ensures.value) ∙ is)

pub returns-clause-notes : goal.returns-clause-notes
returns-clause-notes c entries book ledger follows =
    book_after_recorded c.args.self.now _ entries _ c.args.number c.args.heard c.place-place.result book follows refl c.place-place.ensures c.new-2.result refl refl
    (subst (λ (ss : List ReceiptState). IsFirstWaiting ss c.first_waiting_from-self.result) c.deref.ensures.value c.first_waiting_from-self.ensures) refl refl (c.max-self.ensures ∙ ap (max c.args.self.now.heard) (c.said.ensures entries book ledger)) refl refl refl refl refl

pub place-place-requires : goal.place-place-requires
place-place-requires c =
    let (entries, book, ledger, waits, few) = c.requires.follows in
    omega (arith, book.earlier, (waits.0).here)

pub index_mut-requires : goal.index_mut-requires
index_mut-requires c =
    let (entries, book, ledger, waits, few) = c.requires.follows in
    omega (arith, within_items c.args.self.now entries c.args.number c.place-place.result book (waits.0) c.place-place.ensures)
