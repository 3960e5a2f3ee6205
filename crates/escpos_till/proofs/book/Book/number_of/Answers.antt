-- The keys that the book has are those of the entries.
use Rattle.escpos_till.proofs.BookLemmas.{number_so}
use Rattle.escpos_till.proofs.book.Book.number_of.Goals as goal

pub returns : goal.returns
returns c entries book = number_so c.args.self.now entries c.args.key.now c.number_with.result book c.number_with.ensures
