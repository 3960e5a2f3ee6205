use Rattle.sqlite_value.specs.Value.{owned}
use Rattle.sqlite.specs.Held.{state}
use Rattle.escpos_store.proofs.FailingLemmas.{insert_both_failing}
use Rattle.escpos_store.proofs.HoldsLemmas.{bound_content, both_added_if_ok, both_or_neither}
use Rattle.escpos_store.proofs.statements.insert_both.Goals as goal

pub returns-clause-added : goal.returns-clause-added
returns-clause-added g c =
    both_added_if_ok (state g.S.Store c.args.conn.now) (state g.S.Store c.execute.new.self) c.args.entry.now c.args.after.now _ (owned c.args.id) (owned c.args.after_id) c.execute.result
    (λ db is_open may. g.met.S.Store.settled c.execute.new.self.store db is_open may) c.execute.ensures.runs
    (λ entries next then_next.
    rw (c.kind.ensures, c.requires.number, c.next.ensures, c.content.ensures, bound_content c.args.entry.now, c.kind-2.ensures, c.requires.after_number, c.next-2.ensures, c.content-2.ensures, bound_content c.args.after.now, next, then_next))

pub returns-clause-added_or_not : goal.returns-clause-added_or_not
returns-clause-added_or_not g c clean entries held next then_next =
    both_or_neither (state g.S.Store c.args.conn.now) (state g.S.Store c.execute.new.self) entries c.args.entry.now c.args.after.now held clean
    (rw (c.kind.ensures, c.requires.number, c.next.ensures, c.content.ensures, bound_content c.args.entry.now, c.kind-2.ensures, c.requires.after_number, c.next-2.ensures, c.content-2.ensures, bound_content c.args.after.now, next, then_next) at c.execute.ensures.survives)

pub returns-clause-failed : goal.returns-clause-failed
returns-clause-failed g c =
    insert_both_failing (state g.S.Store c.args.conn.now) (state g.S.Store c.execute.new.self) c.args.entry.now c.args.after.now _ (owned c.args.id) (owned c.args.after_id) c.execute.result c.execute.ensures.runs
    (λ entries next then_next.
    rw (c.kind.ensures, c.requires.number, c.next.ensures, c.content.ensures, bound_content c.args.entry.now, c.kind-2.ensures, c.requires.after_number, c.next-2.ensures, c.content-2.ensures, bound_content c.args.after.now, next, then_next))
