-- What came of it goes on from the older ledger.
use Rattle.std.proofs.Common.{ap, length, refl, subst, arith}
use Rattle.escpos_till.specs.Book.{IsBookOf}
use Rattle.escpos_till.specs.Entries.{IsLedger}
use Rattle.escpos_till.specs.Renewing.{BeginsRenewed}
use Rattle.escpos_till.proofs.EntryLemmas.{last-states}
use Rattle.escpos_till.proofs.RenewLemmas.{renews_so}
use Rattle.escpos_till.proofs.renewing.renewed.Goals as goal

pub returns-in-Ok-check_renewed-clause-renews : goal.returns-in-Ok-check_renewed-clause-renews
returns-in-Ok-check_renewed-clause-renews c =
    let same = c.deref.ensures.value in
    let (nb, found, next, heard, agree) = c.in-Ok-check_renewed.ensures.agrees in
    renews_so c.in-Ok.book c.args.entries.now c.in-Ok-carried_over.new.items _ nb c.in-Ok.ensures.book refl c.in-Ok-carried_over.ensures.carried
    (subst BeginsRenewed same c.in-Ok-check_renewed.ensures.begins) (subst IsLedger same c.in-Ok-check_renewed.ensures.ledger) (subst (IsBookOf nb) same found) next heard agree

pub returns-then-over-clause-too_many : goal.returns-then-over-clause-too_many
returns-then-over-clause-too_many c = λ is.
    let b = c.in-Ok.ensures.book in
    omega (arith, c.if-over.true, b.earlier, b.first_waiting.within, ap length b.states, last-states c.args.entries.now)
