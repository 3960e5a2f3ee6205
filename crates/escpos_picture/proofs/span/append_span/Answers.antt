use Rattle.std.proofs.Common.{◌≡◌, ℕ, ◌+◌, ◌<◌, List, [], ◌∷◌, ◌++◌, arith, refl, sym, ◌∙◌, ap, append_assoc, Bool, true, false}
use Rattle.std.specs.Prelude.{codes}
use Rattle.std.proofs.lemmas.Fmt.{decimal_digit}
use Rattle.escpos_picture.specs.Spans.{span, span_text}
use Rattle.escpos_picture.proofs.span.append_span.Goals as goal

-- A number of dots below ten is a digit.
of_digit : (is_black : Bool) (dots digit : ℕ) (old new : List ℕ) → dots < 10 → digit ≡ 48 + dots
    → (is_black ≡ true → new ≡ old ++ codes "h" ++ digit ∷ []) → (is_black ≡ false → new ≡ old ++ codes "m" ++ digit ∷ codes " 0")
    → new ≡ old ++ span_text (span is_black dots)
of_digit true dots digit old new small is black white =
    black refl ∙ append_assoc old (codes "h") (digit ∷ []) ∙ ap (λ n. old ++ (codes "h" ++ n ∷ [])) is
    ∙ ap (λ t. old ++ (codes "h" ++ t)) (sym (decimal_digit dots small))
of_digit false dots digit old new small is black white =
    white refl ∙ append_assoc old (codes "m") (digit ∷ codes " 0") ∙ ap (λ n. old ++ (codes "m" ++ n ∷ [] ++ codes " 0")) is
    ∙ ap (λ t. old ++ (codes "m" ++ t ++ codes " 0")) (sym (decimal_digit dots small))

pub returns-then-dots-lt10-clause-kept : goal.returns-then-dots-lt10-clause-kept
returns-then-dots-lt10-clause-kept c =
    let small = c.if-dots-lt10.true in
    of_digit c.args.is_black c.args.dots _ _ _ small (omega (arith, small)) c.append_digit.ensures.black c.append_digit.ensures.white
