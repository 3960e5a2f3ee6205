-- What is found is what is known, and the rest.
use Rattle.std.proofs.Common.{◌≡◌, ◌-◌, ◌⊎◌, inl, inr, List, [], length, take, drop, refl, sym, ◌∙◌, subst}
use Rattle.escpos_till.specs.declared.entry.Entry.{Entry}
use Rattle.escpos_till.specs.Entries.{IsLedger}
use Rattle.escpos_till.proofs.LearningLemmas.{ledger_of, no_entries, since_so}
use Rattle.escpos_till.proofs.learning.others_since.Goals as goal
use Rattle.escpos_till.proofs.learning.others_since.Goals.{then-not-is_empty+in_default, else-not-is_empty}

pub returns-in-Err-clause-failed : goal.returns-in-Err-clause-failed
returns-in-Err-clause-failed c = λ is ledger others split are.
    c.in-Err.ensures.failed is (subst IsLedger (sym split) (ledger_of c.args.known.now others ledger are.follow))

pub returns-in-Ok-clause-others : goal.returns-in-Ok-clause-others
returns-in-Ok-clause-others c =
    let known : List Entry = c.args.known.now in
    let found : List Entry = c.args.found.now in
    let rest : List Entry = take (length found - length known) (drop (length known) found) in
    let ledger : IsLedger found ⊎ (rest ≡ []) = elim c.if-not-is_empty.branch [
      | then-not-is_empty+in_default w ↦ inl w.in_default.ensures.ledger
      | else-not-is_empty w ↦ inr (no_entries rest (sym w.if-not-is_empty.false ∙ c.is_empty.ensures))
    ] in
    since_so known found rest c.in-Ok.others.items (c.if-not-are_same.ensures.0 refl) refl c.in-Ok.ensures (c.if-not-are_others.ensures.0 refl) ledger
