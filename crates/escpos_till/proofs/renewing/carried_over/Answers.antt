-- At the end the next mark number is said.
use Rattle.std.proofs.Common.{sym, subst}
use Rattle.escpos_till.specs.Renewing.{Carried}
use Rattle.escpos_till.proofs.RenewLemmas.{carried_raised}
use Rattle.escpos_till.proofs.renewing.carried_over.Goals as goal

pub returns : goal.returns
returns c = record {
  carried = subst (Carried c.args.last c.args.book.now.earlier c.args.entries.now) (sym c.in_ok-push.ensures.items)
      (carried_raised c.args.last c.args.book.now.earlier c.args.entries.now c.carry.new.new.items c.args.book.now.next 0 c.in_ok-carry.ensures);
}
