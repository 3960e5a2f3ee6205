-- How often a receipt was tried is what its state says.
use Rattle.std.proofs.Common.{◌<◌, ◌≡◌, true, false, sym, ◌∙◌, subst, length, MatchOption, ℕ, Option, arith}
use Rattle.escpos_till.specs.Entries.{Waits, times_tried}
use Rattle.escpos_till.proofs.BookLemmas.{tried_past, tried_so}
use Rattle.escpos_till.proofs.book.Book.tried.Goals as goal

pub returns-then-place-len : goal.returns-then-place-len
returns-then-place-len c entries book =
    let here : c.args.self.now.earlier < c.args.number = c.is_earlier.ensures.here (λ is. let bad : true ≡ false = sym is ∙ c.if-is_earlier.false in cc) in
    let inside : c.place-place.result < length c.args.self.now.states.items = omega (arith, c.if-place-len.true, c.len.ensures) in
    subst (λ (tried : Option ℕ). MatchOption tried (Waits entries c.args.number → ⊥) (λ tried. Waits entries c.args.number × (times_tried entries c.args.number ≡ tried))) (sym c.tries_in.ensures)
    (tried_so c.args.self.now entries c.args.number c.place-place.result c.index.result.now book here c.place-place.ensures inside c.index.ensures)

pub returns-else-place-len : goal.returns-else-place-len
returns-else-place-len c entries book =
    tried_past c.args.self.now entries c.args.number c.place-place.result book c.place-place.ensures (omega (arith, c.if-place-len.false, c.len.ensures))
