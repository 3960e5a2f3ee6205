-- Whether keys may be said.
use Rattle.std.proofs.Common.{sym, subst}
use Rattle.escpos_till.specs.Entries.{MayFollow}
use Rattle.escpos_till.proofs.book.Book.may_follow.Goals as goal

pub returns-in-Key : goal.returns-in-Key
returns-in-Key c entries book = (
  λ yes. subst (MayFollow entries) (sym c.in-Key.is) ((c.is_new.ensures entries book).0 yes),
  λ follows. (c.is_new.ensures entries book).1 (subst (MayFollow entries) c.in-Key.is follows),
)

pub returns-in-Earlier : goal.returns-in-Earlier
returns-in-Earlier c entries book = (
  λ yes. subst (MayFollow entries) (sym c.in-Earlier.is) ((c.may_have.ensures entries book).0 yes),
  λ follows. (c.may_have.ensures entries book).1 (subst (MayFollow entries) c.in-Earlier.is follows),
)
