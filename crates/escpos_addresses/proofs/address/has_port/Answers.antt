use Rattle.std.proofs.Common.{◌≡◌, ◌∙◌, ◌+◌, ap, arith, sym, drop, length, ℕ, List, [], true, false}
use Rattle.std.proofs.Math.ListN.{drop_of_length-le}
use Rattle.std.proofs.lemmas.Fmt.{decimal_is_IsNumeral}
use Rattle.escpos_addresses.specs.Address.{IsPort, after_colon}
use Rattle.escpos_addresses.proofs.address.has_port.Goals as goal

no_digits : (digits : List ℕ) → digits ≡ [] → IsPort digits → ⊥
no_digits digits none p = omega (arith, (decimal_is_IsNumeral p.0 (omega (arith, p.1))).0.0, ap length (sym p.2 ∙ none))

pub returns-in-None : goal.returns-in-None
returns-in-None c =
    let none = c.in-None.ensures.byte (omega arith) (λ w o h. h) in
    let empty : after_colon c.args.text.now ≡ [] = ap (λ n. drop (n + 1) c.args.text.now) none ∙ drop_of_length-le c.args.text.now (omega arith) in
    (λ e. let bad : false ≡ true = e in absurd cc, λ p. absurd (no_digits (after_colon c.args.text.now) empty p))
