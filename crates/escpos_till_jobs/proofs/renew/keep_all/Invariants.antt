-- So far the store has the first of the entries more.
use Rattle.std.proofs.Common.{take}
use Rattle.escpos_till_jobs.specs.Renewing.{Has}
use Rattle.escpos_till_jobs.proofs.renew.keep_all.Given as goal

abbrev pub invariant-loop-entry : goal.invariant-loop-entry
invariant-loop-entry g l = Has g.S.Store.faithful g.S.Store.holds l.fn.store (take l.entry-index l.entries) l.store
