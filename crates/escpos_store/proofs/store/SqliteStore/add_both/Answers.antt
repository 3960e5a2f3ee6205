use Rattle.std.proofs.Common.{◌≡◌, ◌+◌, ◌∷◌, [], pos, length, inl, rules, sym, subst}
use Rattle.escpos_store.specs.Holds.{HoldsIn}
use Rattle.sqlite_value.specs.Value.{owned}
use Rattle.sqlite.specs.declared.types.Value.TheVariants.{Int}
use Rattle.sqlite.specs.Held.{state}
use Rattle.escpos_store.specs.Laws.{outlives}
use Rattle.escpos_store.specs.Failing.{Fails}
use Rattle.escpos_store.proofs.FailingLemmas.{says_fault}
use Rattle.escpos_store.proofs.HoldsLemmas.{left_by_both}
use Rattle.escpos_store.proofs.store.SqliteStore.add_both.Goals as goal

pub returns-in_default-clause-kept_or_not : goal.returns-in_default-clause-kept_or_not
returns-in_default-clause-kept_or_not g c clean entries left held may = inl (outlives (state g.S.Store c.args.self.now.connection) entries left held.0 may)

pub returns-in_default-2-clause-kept_or_not : goal.returns-in_default-2-clause-kept_or_not
returns-in_default-2-clause-kept_or_not g c clean entries left held may = inl (outlives (state g.S.Store c.args.self.now.connection) entries left held.0 may)

pub returns-in_default-3-clause-kept_or_not : goal.returns-in_default-3-clause-kept_or_not
returns-in_default-3-clause-kept_or_not g c clean entries left held may = inl (outlives (state g.S.Store c.args.self.now.connection) entries left held.0 may)

pub returns-in-Err-clause-kept_or_not : goal.returns-in-Err-clause-kept_or_not
returns-in-Err-clause-kept_or_not g c clean entries left held may =
    let was = subst (λ v. HoldsIn g.S.Store v entries) (sym c.self.view_is) held in
    let next : owned c.in-Some-Some.first ≡ Int (pos (1 + length entries)) = search rules in
    let then_next : owned c.in-Some-Some.second ≡ Int (pos (2 + length entries)) = search rules in
    left_by_both (state g.S.Store c.insert_both.new.conn) entries left c.args.entry.now c.args.after.now (c.insert_both.ensures.added_or_not clean entries was.0 next then_next) may

pub returns-in-Err-clause-says : goal.returns-in-Err-clause-says
returns-in-Err-clause-says g c =
    says_fault g.S.Store c.args.self.now _ (c.args.entry.now ∷ c.args.after.now ∷ []) c.store_fault.result c.in-Err.fault c.store_fault.ensures.memory
    (λ clean entries held other.
    let was = subst (λ v. HoldsIn g.S.Store v entries) (sym c.self.view_is) held in
    let next : owned c.in-Some-Some.first ≡ Int (pos (1 + length entries)) = search rules in
    let then_next : owned c.in-Some-Some.second ≡ Int (pos (2 + length entries)) = search rules in
    subst (λ v. Fails (state g.S.Store v.connection) v.count (c.args.entry.now ∷ c.args.after.now ∷ []) (state g.S.Store c.insert_both.new.conn)) c.self.view_is
    (subst (λ n. Fails (state g.S.Store c.self.inside.conn) n (c.args.entry.now ∷ c.args.after.now ∷ []) (state g.S.Store c.insert_both.new.conn)) (sym was.1)
    (c.in-Err.ensures.failed clean entries was.0 next then_next other)))
