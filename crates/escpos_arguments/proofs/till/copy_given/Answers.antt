use Rattle.std.proofs.Common.{◌∙◌, Option, Some, Ok, ap, sym, subst, codes}
use Rattle.std.specs.Prelude.{IfSome}
use Rattle.clap.specs.Words.{Text, found_of}
use Rattle.escpos_till.specs.Copy.{IsCopyText}
use Rattle.clap.proofs.WalkLemmas.{first_value-rows}
use Rattle.escpos_arguments.proofs.till.copy_given.Goals as goal

pub returns-in-Some-new-clause-read : goal.returns-in-Some-new-clause-read
returns-in-Some-new-clause-read c =
    let found = c.in-Some.ensures ∙ first_value-rows (found_of c.args.given.now) (codes "copy") in
    sym found ∙ ap Some (sym (c.in-Some-new.ensures.1 ∙ c.as_bytes.ensures.value))

pub returns-in-Some-new-clause-taken : goal.returns-in-Some-new-clause-taken
returns-in-Some-new-clause-taken c = λ copy h range.
    let found = c.in-Some.ensures ∙ first_value-rows (found_of c.args.given.now) (codes "copy") in
    ap Ok (ap Some (c.in-Some-new.ensures.1 ∙ c.as_bytes.ensures.value) ∙ found ∙ h)

pub returns-in-None-new-clause-taken : goal.returns-in-None-new-clause-taken
returns-in-None-new-clause-taken c = λ copy h range.
    let found = c.in-Some.ensures ∙ first_value-rows (found_of c.args.given.now) (codes "copy") in
    let fits : IsCopyText c.in-Some.text.now = subst (λ (o : Option Text). IfSome o IsCopyText) (sym (found ∙ h)) range in
    let is = subst IsCopyText (sym c.as_bytes.ensures.value) fits in
    absurd (c.in-None-new.ensures is)

pub returns-in-None-clause-read : goal.returns-in-None-clause-read
returns-in-None-clause-read c = sym (c.in-None.ensures ∙ first_value-rows (found_of c.args.given.now) (codes "copy"))

pub returns-in-None-clause-taken : goal.returns-in-None-clause-taken
returns-in-None-clause-taken c = λ copy h range. ap Ok (c.in-None.ensures ∙ first_value-rows (found_of c.args.given.now) (codes "copy") ∙ h)
