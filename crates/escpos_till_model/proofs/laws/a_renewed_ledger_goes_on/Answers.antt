-- A till may begin with a ledger that goes on from an older one.
use Rattle.escpos_till_model.proofs.RenewedWorlds.{queued_on, renewed_world}
use Rattle.escpos_till_model.proofs.laws.a_renewed_ledger_goes_on.Goals as goal

pub returns-clause-begins : goal.returns-clause-begins
returns-clause-begins c = renewed_world c.trust.ensures c.promise.ensures

pub returns-clause-queued : goal.returns-clause-queued
returns-clause-queued c = queued_on
