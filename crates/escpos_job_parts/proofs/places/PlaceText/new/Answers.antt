-- 0 has one digit.
use Rattle.std.proofs.Common.{◌≡◌, ◌∷◌, ◌++◌, ◌∙◌, [], ap, sym, arith}
use Rattle.std.proofs.lemmas.Fmt.{decimal_digit}
use Rattle.escpos_job_parts.proofs.places.PlaceText.new.Goals as goal

pub invariant_of-text : goal.invariant_of-text
invariant_of-text c = c.push.ensures.items ∙ ap (λ l. l ++ 48 ∷ []) c.new.ensures ∙ sym (decimal_digit 0 (omega arith))
