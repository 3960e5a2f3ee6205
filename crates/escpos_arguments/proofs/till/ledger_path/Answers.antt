use Rattle.std.proofs.Common.{◌≡◌, ◌∙◌, Some, Ok, ap, sym, codes}
use Rattle.clap.specs.Words.{found_of}
use Rattle.clap.proofs.WalkLemmas.{first_value-rows}
use Rattle.escpos_arguments.proofs.till.ledger_path.Goals as goal

pub returns-in-Some-clause-read : goal.returns-in-Some-clause-read
returns-in-Some-clause-read c =
    let found = c.in-Some.ensures ∙ first_value-rows (found_of c.args.given.now) (codes "ledger") in
    sym found ∙ ap Some (sym c.new.ensures)

pub returns-in-Some-clause-taken : goal.returns-in-Some-clause-taken
returns-in-Some-clause-taken c = λ path h.
    let found = c.in-Some.ensures ∙ first_value-rows (found_of c.args.given.now) (codes "ledger") in
    let is : Some c.in-Some.text.now ≡ Some path = found ∙ h in
    let same : c.in-Some.text.now ≡ path = cc in
    ap Ok (c.new.ensures ∙ same)

pub returns-in-None-clause-taken : goal.returns-in-None-clause-taken
returns-in-None-clause-taken c = λ path h.
    let found = c.in-None.ensures ∙ first_value-rows (found_of c.args.given.now) (codes "ledger") in
    let bad = found ∙ h in
    cc
