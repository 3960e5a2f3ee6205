-- The flag's text is what the rows have.
use Rattle.std.proofs.Common.{◌≡◌, ◌∙◌, ℕ, List, Some, None, ap, sym, codes}
use Rattle.std.specs.Str.{bytes_eq}
use Rattle.std.proofs.lemmas.Slice.Eq.{bytes_eq-Decides}
use Rattle.clap.specs.Words.{found_of}
use Rattle.clap.proofs.WalkLemmas.{first_value-rows}
use Rattle.escpos_arguments.proofs.arguments.has_flag.Goals as goal

same_text : (a b : List ℕ) → Some a ≡ Some b → a ≡ b
same_text a b e = cc

pub returns-in-Some : goal.returns-in-Some
returns-in-Some c =
    let found = c.in-Some.ensures ∙ first_value-rows (found_of c.args.given.now) c.args.name.now in (
      λ is. sym found ∙ ap Some ((bytes_eq-Decides c.in-Some.text.now (codes "true")).0 (sym c.eq.ensures ∙ is)),
      λ h. c.eq.ensures ∙ ap (λ text. bytes_eq text (codes "true")) (same_text c.in-Some.text.now (codes "true") (found ∙ h)),
    )

pub returns-in-None : goal.returns-in-None
returns-in-None c =
    let found = c.in-None.ensures ∙ first_value-rows (found_of c.args.given.now) c.args.name.now in
    (λ is. absurd (cc), λ h. let bad : None ≡ Some (codes "true") = found ∙ h in absurd (cc))
