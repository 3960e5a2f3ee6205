-- One more receipt is taken, with the key that the entry before said.
use Rattle.std.proofs.Common.{refl, sym, ◌∙◌}
use Rattle.escpos_till.proofs.BookLemmas.{book_after_queued, queued_keyed, queued_plain}
use Rattle.escpos_till.proofs.KeyLemmas.{key_is_new}
use Rattle.escpos_till.proofs.book.Book.note_queued.Goals as goal

pub push_reserved-requires-in-Some-clause-new : goal.push_reserved-requires-in-Some-clause-new
push_reserved-requires-in-Some-clause-new c = λ n lists.
    let (entries, book, ledger, few) = c.requires.follows in
    key_is_new c.args.self.now.keys.items entries c.in-Some.key n ledger (sym book.last_key ∙ sym c.take.ensures.value ∙ c.in-Some.is) book.keys lists

pub returns-in-Some : goal.returns-in-Some
returns-in-Some c entries book ledger follows =
    let keys = queued_keyed c.args.self.now entries c.args.content c.in-Some.key c.last_number-number.result c.push_reserved-in-Some.new.self.items c.push_reserved.new.self.items book
    (sym c.take.ensures.value ∙ c.in-Some.is) c.push_reserved.ensures.items c.last_number-number.ensures c.push_reserved-in-Some.ensures in
    book_after_queued c.args.self.now _ entries _ c.args.content book ledger refl c.push_reserved-2.ensures.items c.push_reserved.ensures.items refl refl refl refl refl refl keys c.take.ensures.after refl

pub returns-in_default : goal.returns-in_default
returns-in_default c entries book ledger follows =
    let keys = queued_plain c.args.self.now entries c.args.content c.args.self.now.keys.items book (sym c.take.ensures.value ∙ c.in_default.is) refl in
    book_after_queued c.args.self.now _ entries _ c.args.content book ledger refl c.push_reserved-2.ensures.items c.push_reserved.ensures.items refl refl refl refl refl refl keys c.take.ensures.after refl
