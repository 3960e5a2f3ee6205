-- The text is what the rows have.
use Rattle.std.proofs.Common.{◌∙◌, refl, sym, codes}
use Rattle.clap.specs.Words.{found_of}
use Rattle.clap.proofs.WalkLemmas.{first_value-rows}
use Rattle.escpos_arguments.proofs.options.has_no_replacement.Goals as goal

pub returns-in-Some : goal.returns-in-Some
returns-in-Some c =
    let found = c.in-Some.ensures ∙ first_value-rows (found_of c.args.given.now) (codes "replace") in (
      λ is. absurd (cc),
      λ none. let bad = found ∙ none in absurd (cc),
    )

pub returns-in-None : goal.returns-in-None
returns-in-None c =
    let found = c.in-None.ensures ∙ first_value-rows (found_of c.args.given.now) (codes "replace") in
    (λ is. sym found, λ none. refl)
