-- One entry more.
use Rattle.std.proofs.Common.{subst}
use Rattle.std.proofs.lemmas.List.{take_all}
use Rattle.escpos_till_jobs.specs.Renewing.{Has}
use Rattle.escpos_till_jobs.proofs.Renewals.{has_next, has_none}
use Rattle.escpos_till_jobs.proofs.renew.keep_all.Goals as goal

pub loop-entry-init : goal.loop-entry-init
loop-entry-init g c = has_none g.S.Store.faithful g.S.Store.holds c.args.store.now

pub loop-entry-preserved : goal.loop-entry-preserved
loop-entry-preserved g c =
    has_next g.S.Store.faithful g.S.Store.holds c.args.store.now c.loop-entry.store c.keep.new.store c.args.entries.now c.loop-entry.entry-index c.entry-item.result c.loop-entry-test.true c.entry-item.is
    c.loop-entry.invariant c.in_ok-keep.ensures.has

pub returns : goal.returns
returns g c = record {
  has = subst (λ l. Has g.S.Store.faithful g.S.Store.holds c.args.store.now l c.loop-entry.store) (take_all c.loop-entry.entry-index c.args.entries.now c.loop-entry-test.false) c.loop-entry.invariant;
}
