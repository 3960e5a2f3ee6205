-- Where a receipt stands is what its state says.
use Rattle.std.proofs.Common.{◌<◌, ◌≡◌, inr, true, false, length, sym, ◌∙◌, arith}
use Rattle.escpos_till.proofs.BookLemmas.{past_all, stands_so, waits_so}
use Rattle.escpos_till.proofs.book.Book.state.Goals as goal

pub returns-then-place-len-clause-stands : goal.returns-then-place-len-clause-stands
returns-then-place-len-clause-stands c entries book =
    let here : c.args.self.now.earlier < c.args.number = c.is_earlier.ensures.here (λ is. let bad : true ≡ false = sym is ∙ c.if-is_earlier.false in cc) in
    let inside : c.place-place.result < length c.args.self.now.states.items = omega (arith, c.if-place-len.true, c.len.ensures) in
    stands_so c.args.self.now entries c.args.number c.place-place.result c.index.result.now book here c.place-place.ensures inside c.index.ensures

pub returns-then-place-len-clause-waits : goal.returns-then-place-len-clause-waits
returns-then-place-len-clause-waits c entries tried book is =
    let here : c.args.self.now.earlier < c.args.number = c.is_earlier.ensures.here (λ is. let bad : true ≡ false = sym is ∙ c.if-is_earlier.false in cc) in
    let inside : c.place-place.result < length c.args.self.now.states.items = omega (arith, c.if-place-len.true, c.len.ensures) in
    waits_so c.args.self.now entries c.args.number c.place-place.result tried c.index.result.now book here c.place-place.ensures inside c.index.ensures is

pub returns-else-place-len-clause-stands : goal.returns-else-place-len-clause-stands
returns-else-place-len-clause-stands c entries book =
    let here : c.args.self.now.earlier < c.args.number = c.is_earlier.ensures.here (λ is. let bad : true ≡ false = sym is ∙ c.if-is_earlier.false in cc) in
    inr (past_all c.args.self.now entries c.args.number c.place-place.result book here c.place-place.ensures (omega (arith, c.if-place-len.false, c.len.ensures)))
