-- Where no number is said, it is that after the last try, which is within the numbers of marks.
use Rattle.std.proofs.Common.{ap, arith}
use Rattle.escpos_till.specs.Tries.{end_of_tries}
use Rattle.escpos_till.proofs.EntryLemmas.{ends_within, said_none}
use Rattle.escpos_till.proofs.book.Book.said.Goals as goal

pub returns-then-heard-eq0 : goal.returns-then-heard-eq0
returns-then-heard-eq0 c entries book ledger =
    let within = ends_within entries c.args.number ledger in
    let same = ap (λ ts. end_of_tries ts c.args.number) book.tries in
    said_none entries c.args.number c.args.heard c.end_of_tries.result c.if-heard-eq0.true (omega (arith, c.end_of_tries.ensures, ap (λ ts. end_of_tries ts c.args.number) c.deref.ensures.value, same, within))
