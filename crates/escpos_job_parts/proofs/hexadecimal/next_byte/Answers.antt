use Rattle.std.proofs.Common.{◌<◌, ◌-◌, ◌∷◌, ◌∙◌, ap, drop, slice_index, inl, inr, subst}
use Rattle.escpos_job_parts.specs.Hexadecimal.{digits_of}
use Rattle.escpos_job_parts.proofs.DigitPairs.{no_pair, no_digit_at}
use Rattle.escpos_job_parts.proofs.hexadecimal.next_byte.Goals as goal

pub returns-then-high-gt15-clause-refused : goal.returns-then-high-gt15-clause-refused
returns-then-high-gt15-clause-refused c =
    let first = c.in-Some.ensures in
    let second = c.in-Some-next_digit.ensures in
    let high = slice_index c.args.text.now (c.in-Some.after_high - 1) in
    let low = slice_index c.args.text.now (c.in-Some-next_digit.after_low - 1) in
    λ _. rw (first.digits ∙ ap (λ ds. high ∷ ds) second.digits)
    (no_pair high low (digits_of (drop c.in-Some-next_digit.after_low c.args.text.now)) (elim c.then-high-gt15.either [
      | inl large ↦ inl (no_digit_at high (subst (λ v. 15 < v) first.value.0 large) (λ e. first.value.1 (first.value.0 ∙ e)))
      | inr large ↦ inr (no_digit_at low (subst (λ v. 15 < v) second.value.0 large.1) (λ e. second.value.1 (second.value.0 ∙ e)))
    ]))
