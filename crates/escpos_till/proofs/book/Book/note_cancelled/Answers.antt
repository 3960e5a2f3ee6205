-- One more receipt is cancelled.
use Rattle.std.proofs.Common.{◌∙◌, List, ap, slice_get, sym, subst, refl, arith}
use Rattle.escpos_till.specs.States.{IsEnded, IsFirstWaiting}
use Rattle.escpos_till.specs.Entries.{times_tried}
use Rattle.escpos_till.specs.declared.state.ReceiptState.{ReceiptState}
use Rattle.escpos_till.proofs.BookLemmas.{book_after_cancelled, state_read, within_contents, within_items}
use Rattle.escpos_till.proofs.StateLemmas.{passed_after_end}
use Rattle.escpos_till.proofs.book.Book.note_cancelled.Goals as goal

pub once_cancelled-requires : goal.once_cancelled-requires
once_cancelled-requires c =
    let (entries, book, ledger, waits, few) = c.requires.follows in
    (times_tried entries c.args.number, state_read c.args.self.now entries c.args.number c.place-place.result c.index.result.now book waits c.place-place.ensures c.index.ensures)

pub index_mut-requires-2 : goal.index_mut-requires-2
index_mut-requires-2 c =
    let (entries, book, ledger, waits, few) = c.requires.follows in
    omega (arith, within_contents c.args.self.now entries c.args.number c.place-place.result book waits c.place-place.ensures)

pub first_waiting_from-self-requires-clause-passed :
    goal.first_waiting_from-self-requires-clause-passed
first_waiting_from-self-requires-clause-passed c k s before is =
    let (entries, book, ledger, waits, few) = c.requires.follows in
    let read = state_read c.args.self.now entries c.args.number c.place-place.result c.index.result.now book waits c.place-place.ensures c.index.ensures in
    let ended = subst IsEnded (sym (c.once_cancelled.ensures (times_tried entries c.args.number) read)) tt in
    passed_after_end c.args.self.now.states.items c.args.self.now.first_waiting c.place-place.result c.once_cancelled.result ended book.first_waiting k s before
    (ap (λ (ss : List ReceiptState). slice_get ss k) (sym c.deref.ensures.value) ∙ is)

pub returns : goal.returns
returns c entries book ledger follows =
    book_after_cancelled c.args.self.now _ entries _ c.args.number c.place-place.result c.index.result.now c.once_cancelled.result book follows refl c.place-place.ensures c.index.ensures
    c.once_cancelled.ensures c.new-2.result refl refl
    (subst (λ (ss : List ReceiptState). IsFirstWaiting ss c.first_waiting_from-self.result) c.deref.ensures.value c.first_waiting_from-self.ensures) refl refl refl refl refl refl refl refl

pub place-place-requires : goal.place-place-requires
place-place-requires c =
    let (entries, book, ledger, waits, few) = c.requires.follows in
    omega (arith, book.earlier, waits.here)

pub index-requires : goal.index-requires
index-requires c =
    let (entries, book, ledger, waits, few) = c.requires.follows in
    omega (arith, within_items c.args.self.now entries c.args.number c.place-place.result book waits c.place-place.ensures)

pub index_mut-requires : goal.index_mut-requires
index_mut-requires c =
    let (entries, book, ledger, waits, few) = c.requires.follows in
    omega (arith, within_items c.args.self.now entries c.args.number c.place-place.result book waits c.place-place.ensures)
