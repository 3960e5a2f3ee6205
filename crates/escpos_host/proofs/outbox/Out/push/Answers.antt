-- The bytes of the part follow those that were left.
use Rattle.std.proofs.Common.{subst, sym}
use Rattle.escpos_host.specs.Out.{Within}
use Rattle.escpos_host.proofs.Pending.{appended}
use Rattle.escpos_host.proofs.outbox.Out.push.Goals as goal

pub returns-clause-unsent : goal.returns-clause-unsent
returns-clause-unsent c = λ receipts within.
    let inside = c.self.inside in
    let before = subst (λ o. Within receipts o) (sym c.self.view_is) within in
    rw (c.in_ok-push_back.ensures.items, ← c.self.view_is) (appended receipts inside.parts.items inside.item inside.from c.args.part before.in_first)
