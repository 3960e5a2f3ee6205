-- The receipt is one of an older ledger, and neither it nor another has a key like that.
use Rattle.escpos_till.proofs.book.Book.may_have.Goals as goal

pub returns : goal.returns
returns c entries book = (
  λ yes.
      let (older, fresh, other) = c.may_be_said.ensures.0 yes in (
        c.is_earlier.ensures.from_one,
        (c.is_earlier.ensures.entries entries book).0 older,
        (c.is_new.ensures entries book).0 fresh,
        λ key has. other ((c.has_key.ensures entries book).1 (key, has)),
      ),
  λ (from_one, older, fresh, other).
      c.may_be_said.ensures.1 (
        (c.is_earlier.ensures.entries entries book).1 older,
        (c.is_new.ensures entries book).1 fresh,
        λ keyed. let (key, has) = (c.has_key.ensures entries book).0 keyed in other key has,
      ),
)
