-- One more entry, by its kind.
use Rattle.std.proofs.Common.{refl, subst, arith}
use Rattle.escpos_till.specs.Entries.{MayFollow, times_tried}
use Rattle.escpos_till.proofs.EntryLemmas.{few_tries}
use Rattle.escpos_till.proofs.BookLemmas.{book_after_earlier, book_after_key, book_after_raised, book_after_renewed, book_after_tried, state_read, within_items}
use Rattle.escpos_till.proofs.book.Book.note.Goals as goal

pub one_try_more-requires : goal.one_try_more-requires
one_try_more-requires c =
    let (entries, book, ledger, follows, few) = c.requires.follows in
    let waits = (subst (MayFollow entries) c.in-Tried.is follows).0 in (
      times_tried entries c.in-Tried.number,
      state_read c.args.self.now entries c.in-Tried.number c.place-place.result c.index.result.now book waits c.place-place.ensures c.index.ensures,
      omega (arith, few_tries entries c.in-Tried.number, few),
    )

pub returns-in-Tried-clause-notes : goal.returns-in-Tried-clause-notes
returns-in-Tried-clause-notes c entries book ledger follows =
    book_after_tried c.args.self.now _ entries c.args.entry c.in-Tried.number c.in-Tried.next c.place-place.result c.index.result.now c.one_try_more.result book follows c.in-Tried.is
    c.place-place.ensures c.index.ensures c.one_try_more.ensures refl refl refl refl refl refl refl c.push_reserved.ensures.items refl refl refl

pub returns-in-Raised-clause-notes : goal.returns-in-Raised-clause-notes
returns-in-Raised-clause-notes c entries book ledger follows =
    book_after_raised c.args.self.now _ entries c.args.entry c.in-Raised.next c.in-Raised.heard book c.in-Raised.is refl refl refl refl refl c.max-self.ensures refl refl refl refl refl

pub returns-in-Key-clause-notes : goal.returns-in-Key-clause-notes
returns-in-Key-clause-notes c entries book ledger follows =
    book_after_key c.args.self.now _ entries c.args.entry c.in-Key.key book c.in-Key.is refl refl refl refl refl refl refl refl refl refl refl

pub place-place-requires : goal.place-place-requires
place-place-requires c =
    let (entries, book, ledger, follows, few) = c.requires.follows in
    let waits = (subst (MayFollow entries) c.in-Tried.is follows).0 in
    omega (arith, book.earlier, waits.here)

pub returns-in-Renewed-clause-notes : goal.returns-in-Renewed-clause-notes
returns-in-Renewed-clause-notes c entries book ledger follows =
    book_after_renewed c.args.self.now _ entries c.args.entry c.in-Renewed.last c.in-Renewed.heard book follows c.in-Renewed.is refl refl refl refl refl c.max-self-in-Renewed.ensures refl refl refl refl refl

pub returns-in-Earlier-clause-notes : goal.returns-in-Earlier-clause-notes
returns-in-Earlier-clause-notes c entries book ledger follows =
    book_after_earlier c.args.self.now _ entries c.args.entry c.in-Earlier.number c.in-Earlier.key book follows c.in-Earlier.is refl refl refl refl refl refl refl refl c.push_reserved-in-Earlier.ensures refl refl

pub index-requires : goal.index-requires
index-requires c =
    let (entries, book, ledger, follows, few) = c.requires.follows in
    let waits = (subst (MayFollow entries) c.in-Tried.is follows).0 in
    omega (arith, within_items c.args.self.now entries c.in-Tried.number c.place-place.result book waits c.place-place.ensures)

pub index_mut-requires : goal.index_mut-requires
index_mut-requires c =
    let (entries, book, ledger, follows, few) = c.requires.follows in
    let waits = (subst (MayFollow entries) c.in-Tried.is follows).0 in
    omega (arith, within_items c.args.self.now entries c.in-Tried.number c.place-place.result book waits c.place-place.ensures)
