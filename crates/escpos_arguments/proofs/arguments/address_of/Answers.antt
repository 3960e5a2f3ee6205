use Rattle.std.proofs.Common.{◌∙◌, Option, codes, sym, subst}
use Rattle.std.specs.Prelude.{IsSomeAnd}
use Rattle.std.proofs.lemmas.Result.{IfOk-weaker}
use Rattle.clap.specs.Words.{Text, found_of}
use Rattle.clap.proofs.WalkLemmas.{first_value-rows}
use Rattle.escpos_addresses.specs.Address.{IsAddress}
use Rattle.escpos_arguments.proofs.arguments.address_of.Goals as goal

pub returns-in-Some-clause-read : goal.returns-in-Some-clause-read
returns-in-Some-clause-read c =
    let found = c.in-Some.ensures ∙ first_value-rows (found_of c.args.given.now) (codes "address") in
    IfOk-weaker c.address_in.result _ _ (λ a h. subst (λ (o : Option Text). IsSomeAnd o (λ t. IsAddress t a)) found h) c.address_in.ensures.read

pub returns-in-Some-clause-taken : goal.returns-in-Some-clause-taken
returns-in-Some-clause-taken c = λ a h.
    let found = c.in-Some.ensures ∙ first_value-rows (found_of c.args.given.now) (codes "address") in
    c.address_in.ensures.taken a (subst (λ (o : Option Text). IsSomeAnd o (λ t. IsAddress t a)) (sym found) h)

pub returns-in-None-clause-taken : goal.returns-in-None-clause-taken
returns-in-None-clause-taken c = λ a h.
    let found = c.in-None.ensures ∙ first_value-rows (found_of c.args.given.now) (codes "address") in
    absurd (subst (λ (o : Option Text). IsSomeAnd o (λ t. IsAddress t a)) (sym found) h)
