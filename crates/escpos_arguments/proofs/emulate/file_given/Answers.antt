use Rattle.std.proofs.Common.{◌≡◌, ◌≤◌, ◌∙◌, Option, Some, None, Ok, ap, sym, subst, codes, length}
use Rattle.std.specs.Prelude.{IfSome}
use Rattle.clap.specs.Words.{Text, found_of}
use Rattle.clap.proofs.WalkLemmas.{first_value-rows}
use Rattle.escpos_addresses.specs.declared.address.TheConstants.{MOST_TEXT}
use Rattle.escpos_arguments.proofs.emulate.file_given.Goals as goal

pub returns-in-Some-of-clause-read : goal.returns-in-Some-of-clause-read
returns-in-Some-of-clause-read c =
    let found = c.in-Some.ensures ∙ first_value-rows (found_of c.args.given.now) (codes "condition-file") in
    sym found ∙ ap Some (sym c.in-Some-of.ensures.read.0)

pub returns-in-Some-of-clause-taken : goal.returns-in-Some-of-clause-taken
returns-in-Some-of-clause-taken c = λ file h range.
    let found = c.in-Some.ensures ∙ first_value-rows (found_of c.args.given.now) (codes "condition-file") in
    ap Ok (ap Some c.in-Some-of.ensures.read.0 ∙ found ∙ h)

pub returns-in-None-of-clause-taken : goal.returns-in-None-of-clause-taken
returns-in-None-of-clause-taken c = λ file h range.
    let found = c.in-Some.ensures ∙ first_value-rows (found_of c.args.given.now) (codes "condition-file") in
    let fits : length c.in-Some.text.now ≤ MOST_TEXT = subst (λ (o : Option Text). IfSome o (λ path. length path ≤ MOST_TEXT)) (sym (found ∙ h)) range in
    let bad : None ≡ Some c.in-Some.text.now = c.in-None-of.ensures.taken fits in
    cc

pub returns-in-None-clause-read : goal.returns-in-None-clause-read
returns-in-None-clause-read c = sym (c.in-None.ensures ∙ first_value-rows (found_of c.args.given.now) (codes "condition-file"))

pub returns-in-None-clause-taken : goal.returns-in-None-clause-taken
returns-in-None-clause-taken c = λ file h range. ap Ok (c.in-None.ensures ∙ first_value-rows (found_of c.args.given.now) (codes "condition-file") ∙ h)
