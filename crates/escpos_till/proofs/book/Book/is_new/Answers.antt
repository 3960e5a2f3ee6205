-- A key is new where no number stands with it.
use Rattle.std.proofs.Common.{◌≡◌, true, false, refl}
use Rattle.escpos_till.proofs.book.Book.is_new.Goals as goal

pub returns-in-Some : goal.returns-in-Some
returns-in-Some c entries book = (λ yes. absurd (let bad : false ≡ true = yes in cc), λ none. absurd (none c.in-Some.field-0 (c.in-Some.ensures entries book)))

pub returns-in-None : goal.returns-in-None
returns-in-None c entries book = (λ yes. c.in-None.ensures entries book, λ none. refl)
