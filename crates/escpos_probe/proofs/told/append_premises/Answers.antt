use Rattle.std.proofs.Common.{◌≡◌, ◌∙◌, ◌++◌, ap, codes, List, ℕ}
use Rattle.std.proofs.lemmas.List.{append_assoc}
use Rattle.escpos_probe.specs.Lines.{fact_line}
use Rattle.escpos_probe.proofs.told.append_premises.Goals as goal

three : (old a b c first second third : List ℕ) → first ≡ old ++ a → second ≡ first ++ b → third ≡ second ++ c → third ≡ old ++ (a ++ b ++ c)
three old a b c first second third f s t =
    t ∙ ap (λ l. l ++ c) (s ∙ ap (λ l. l ++ b) f) ∙ ap (λ l. l ++ c) (append_assoc old a b) ∙ append_assoc old (a ++ b) c

pub returns-clause-kept : goal.returns-clause-kept
returns-clause-kept c =
    let p = c.args.premises in
    three c.args.gather.now.kept (fact_line (codes "sends nothing unasked: ") p.quiet) (fact_line (codes "answers marks: ") p.marks)
    (fact_line (codes "tells its status: ") p.status) _ _ _ c.append_fact.ensures.kept c.append_fact-2.ensures.kept c.append_fact-3.ensures.kept
