-- The ledger was opened, and renewed or not; or it wasn't opened.
use Rattle.std.proofs.Common.{inl, inr, refl}
use Rattle.escpos_till_jobs.proofs.Renewals.{either_way}
use Rattle.escpos_till_jobs.proofs.renew.renew_ledger.Goals as goal

pub returns-in-Ok-clause-renews : goal.returns-in-Ok-clause-renews
returns-in-Ok-clause-renews g c = inr (
  c.in-Ok.store,
  c.renew_to-came.new.store,
  c.open.new.self,
  c.in-Ok.ensures,
  c.close.ensures,
  either_way c.renew_to-came.result _ _ _ _ c.renew_to-came.ensures.renews c.renew_to-came.ensures.kept c.tell_renewal.ensures.renewed c.tell_renewal.ensures.refused,
)

pub returns-in-Err-clause-renews : goal.returns-in-Err-clause-renews
returns-in-Err-clause-renews g c = inl (c.in-Err.why, c.in-Err.ensures, refl, c.refuse_store.ensures.tells)
