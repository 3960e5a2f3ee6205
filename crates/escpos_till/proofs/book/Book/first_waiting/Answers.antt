-- The first receipt that waits.
use Rattle.escpos_till.proofs.BookLemmas.{contents_so, first_found}
use Rattle.escpos_till.proofs.book.Book.first_waiting.Goals as goal

pub waiting_at-requires-clause-waits : goal.waiting_at-requires-clause-waits
waiting_at-requires-clause-waits c =
    let (entries, book) = c.requires in
    book.first_waiting.waits

pub waiting_at-requires-clause-contents : goal.waiting_at-requires-clause-contents
waiting_at-requires-clause-contents c =
    let (entries, book) = c.requires in
    contents_so c.args.self.now entries book

pub returns-clause-waits : goal.returns-clause-waits
returns-clause-waits c entries book = (first_found c.args.self.now entries c.waiting_at.result book c.waiting_at.ensures).0

pub returns-clause-first : goal.returns-clause-first
returns-clause-first c entries book = (first_found c.args.self.now entries c.waiting_at.result book c.waiting_at.ensures).1
