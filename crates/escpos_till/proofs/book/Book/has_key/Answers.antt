-- The numbers that the book lists are those of the receipts that have keys.
use Rattle.escpos_till.proofs.BookLemmas.{known_number, listed_so}
use Rattle.escpos_till.proofs.book.Book.has_key.Goals as goal

pub returns : goal.returns
returns c entries book = (
  λ yes. listed_so c.args.self.now entries c.args.number book (c.has_number.ensures.0 yes),
  λ has. c.has_number.ensures.1 (known_number c.args.self.now entries c.args.number book has),
)
