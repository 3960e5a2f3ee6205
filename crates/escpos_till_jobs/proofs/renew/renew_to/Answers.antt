-- The older ledger is renewed; or it isn't read, the new one isn't written, or its end isn't kept.
use Rattle.std.proofs.Common.{inl, inr, subst}
use Rattle.escpos_till_jobs.specs.Renewing.{Has, IsUnwritten, MayHave, Writes, ending, new_place}
use Rattle.escpos_till_jobs.proofs.Renewals.{ends_all, told_so}
use Rattle.escpos_till_jobs.proofs.renew.renew_to.Goals as goal

pub returns-in-Err-write_new-clause-kept : goal.returns-in-Err-write_new-clause-kept
returns-in-Err-write_new-clause-kept g c =
    let place = new_place g.N.NewLedgers.begun g.N.NewLedgers.finished g.S.Store.faithful g.S.Store.holds in
    inr (inl (
      c.in-Ok.read.0.items,
      c.in-Ok.ensures.reads,
      subst (λ es. IsUnwritten place c.args.news.now c.args.path.now es c.in-Err-write_new.why c.write_new.new.news) c.deref.ensures.value c.in-Err-write_new.ensures.unwritten,
    ))

pub returns-in-Ok-end_ledger-clause-renews : goal.returns-in-Ok-end_ledger-clause-renews
returns-in-Ok-end_ledger-clause-renews g c =
    let place = new_place g.N.NewLedgers.begun g.N.NewLedgers.finished g.S.Store.faithful g.S.Store.holds in
    record {
      new = c.in-Ok.read.0.items;
      mid = c.read_renewed.new.store;
      reads = c.in-Ok.ensures.reads;
      waiting_is = c.in-Ok.ensures.count;
      writes = subst (λ es. Writes place c.args.news.now c.args.path.now es c.write_new.new.news) c.deref.ensures.value c.in-Ok-write_new.ensures.writes;
      marked = subst (λ es. Has g.T.Store.faithful g.T.Store.holds c.read_renewed.new.store (ending es) c.end_ledger.new.store) c.deref-2.ensures.value c.in-Ok-end_ledger.ensures.ends;
      no_ledger = λ before. ends_all c.in-Ok.read.0.items before c.in-Ok.ensures.reads.renews.begins;
    }

pub returns-clause-kept : goal.returns-clause-kept
returns-clause-kept g c =
    let place = new_place g.N.NewLedgers.begun g.N.NewLedgers.finished g.S.Store.faithful g.S.Store.holds in
    inr (inr (
      c.in-Ok.read.0.items,
      c.read_renewed.new.store,
      c.in-Ok.ensures.reads,
      subst (λ es. Writes place c.args.news.now c.args.path.now es c.write_new.new.news) c.deref.ensures.value c.in-Ok-write_new.ensures.writes,
      subst (λ es. MayHave g.T.Store.faithful g.T.Store.holds g.T.Store.leaves c.read_renewed.new.store (ending es) c.end_ledger.new.store) c.deref-2.ensures.value
          c.in-Err-end_ledger.ensures.may_end,
      told_so c.in-Err-end_ledger.fault c.no_store.result c.no_store.ensures.failed c.no_store.ensures.memory,
    ))
