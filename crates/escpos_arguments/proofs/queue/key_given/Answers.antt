use Rattle.std.proofs.Common.{◌∙◌, Option, Some, Ok, ap, sym, subst, codes}
use Rattle.std.specs.Prelude.{IfSome}
use Rattle.clap.specs.Words.{Text, found_of}
use Rattle.escpos_till.specs.Keys.{IsKey}
use Rattle.clap.proofs.WalkLemmas.{first_value-rows}
use Rattle.escpos_arguments.proofs.queue.key_given.Goals as goal

pub returns-in-Some-new-clause-read : goal.returns-in-Some-new-clause-read
returns-in-Some-new-clause-read c =
    let found = c.in-Some.ensures ∙ first_value-rows (found_of c.args.given.now) (codes "key") in
    sym found ∙ ap Some (sym (c.in-Some-new.ensures.1 ∙ c.as_bytes.ensures.value))

pub returns-in-Some-new-clause-taken : goal.returns-in-Some-new-clause-taken
returns-in-Some-new-clause-taken c = λ key h range.
    let found = c.in-Some.ensures ∙ first_value-rows (found_of c.args.given.now) (codes "key") in
    ap Ok (ap Some (c.in-Some-new.ensures.1 ∙ c.as_bytes.ensures.value) ∙ found ∙ h)

pub returns-in-None-new-clause-taken : goal.returns-in-None-new-clause-taken
returns-in-None-new-clause-taken c = λ key h range.
    let found = c.in-Some.ensures ∙ first_value-rows (found_of c.args.given.now) (codes "key") in
    let fits : IsKey c.in-Some.text.now = subst (λ (o : Option Text). IfSome o IsKey) (sym (found ∙ h)) range in
    let is = subst IsKey (sym c.as_bytes.ensures.value) fits in
    absurd (c.in-None-new.ensures is)

pub returns-in-None-clause-read : goal.returns-in-None-clause-read
returns-in-None-clause-read c = sym (c.in-None.ensures ∙ first_value-rows (found_of c.args.given.now) (codes "key"))

pub returns-in-None-clause-taken : goal.returns-in-None-clause-taken
returns-in-None-clause-taken c = λ key h range. ap Ok (c.in-None.ensures ∙ first_value-rows (found_of c.args.given.now) (codes "key") ∙ h)
