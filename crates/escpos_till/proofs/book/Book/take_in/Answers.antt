-- Entry by entry.
use Rattle.std.proofs.Common.{◌++◌, ◌∷◌, [], List, take, refl, sym, subst, append-nil}
use Rattle.std.proofs.lemmas.List.{take_all}
use Rattle.escpos_till.specs.declared.entry.Entry.{Entry}
use Rattle.escpos_till.specs.Book.{IsBookOf}
use Rattle.escpos_till.specs.Entries.{IsLedger, MayFollow}
use Rattle.escpos_till.specs.Learning.{FollowAll}
use Rattle.escpos_till.proofs.EntryLemmas.{ledger-snoc}
use Rattle.escpos_till.proofs.LearningLemmas.{follow_at, follow_longer, longer_by_one}
use Rattle.escpos_till.proofs.book.Book.take_in.Goals as goal

pub loop-entry-init : goal.loop-entry-init
loop-entry-init c = record {
  so_far = λ entries book ledger. (tt, subst (IsBookOf c.args.self.now) (sym (append-nil entries)) book, subst IsLedger (sym (append-nil entries)) ledger);
}

pub returns-then-not-may_follow-clause-damaged : goal.returns-then-not-may_follow-clause-damaged
returns-then-not-may_follow-clause-damaged c = λ is entries book ledger all.
    let so = c.loop-entry.invariant.so_far entries book ledger in
    let decides = c.may_follow.ensures (entries ++ take c.loop-entry.entry-index c.args.more.now) so.1 in
    let yes = decides.1 (follow_at entries c.args.more.now c.loop-entry.entry-index c.entry-item.result c.loop-entry-test.true c.entry-item.is all) in
    let never = c.if-not-may_follow.true in
    cc

pub loop-entry-preserved : goal.loop-entry-preserved
loop-entry-preserved c = record {
  so_far = λ entries book ledger.
      let front : List Entry = entries ++ take c.loop-entry.entry-index c.args.more.now in
      let (all, so, well) = c.loop-entry.invariant.so_far entries book ledger in
      let follows : MayFollow front c.entry-item.result = (c.if-not-may_follow.ensures front so).0 refl in
      let noted = c.note.ensures.notes front (c.reserve_try.ensures.same front (c.reserve.ensures.same front so)) well (subst (MayFollow front) (sym c.in-Ok.ensures) follows) in
      let longer = longer_by_one entries c.args.more.now c.loop-entry.entry-index c.entry-item.result c.loop-entry-test.true c.entry-item.is in (
        follow_longer entries c.args.more.now c.loop-entry.entry-index c.entry-item.result c.loop-entry-test.true c.entry-item.is all follows,
        subst (IsBookOf c.note.new.self) longer (subst (λ (e : Entry). IsBookOf c.note.new.self (front ++ e ∷ [])) c.in-Ok.ensures noted),
        subst IsLedger longer (ledger-snoc front c.entry-item.result well follows),
      );
}

pub returns-clause-all : goal.returns-clause-all
returns-clause-all c = λ entries book ledger.
    let (all, so, well) = c.loop-entry.invariant.so_far entries book ledger in
    let whole = take_all c.loop-entry.entry-index c.args.more.now c.loop-entry-test.false in
    (subst (FollowAll entries) whole all, subst (λ v. IsBookOf c.loop-entry.self (entries ++ v)) whole so)
