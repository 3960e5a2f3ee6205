-- What the book says of a key holds of all entries that it is of.
use Rattle.std.proofs.Common.{ℕ, List, Option, Some, ap, sym, subst, MatchOption}
use Rattle.escpos_till.specs.declared.book.Book.{Book}
use Rattle.escpos_till.specs.Machine.{IsKnown, IsNew}
use Rattle.escpos_till.proofs.MachineLemmas.{known_so}
use Rattle.escpos_till.proofs.machine.TillMachine.known.Goals as goal

pub returns-in-Some : goal.returns-in-Some
returns-in-Some c =
    subst (λ (k : Option (List ℕ)). MatchOption c.number_of.result (IsNew c.args.self.now.book k) (λ n. IsKnown c.args.self.now.book k n)) (sym c.in-Some.is)
    (subst (λ (b : Book). MatchOption c.number_of.result (IsNew b (Some c.in-Some.key)) (λ n. IsKnown b (Some c.in-Some.key) n)) (ap (λ m. m.book) c.self.view_is)
    (known_so c.self.inside.book c.in-Some.key c.number_of.result c.number_of.ensures))
