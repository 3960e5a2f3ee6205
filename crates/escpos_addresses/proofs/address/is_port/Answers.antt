use Rattle.std.proofs.Common.{◌≡◌, ◌∙◌, ◌<◌, ap, sym, subst, decimal, length, ℕ, List, refl, Result, Ok, Err, arith}
use Rattle.std.specs.Str.Parse.{AllDigits, ParsesUnsigned, digits_value}
use Rattle.std.proofs.lemmas.Slice.Eq.{bytes_eq-Decides}
use Rattle.std.proofs.lemmas.Str.Parse.{IsNumeralModel, parse_gives}
use Rattle.std.proofs.lemmas.Fmt.{decimal_is_IsNumeral, digits_decimal, digits_value-decimal}
use Rattle.escpos_addresses.proofs.address.is_port.Goals as goal

own : IsNumeralModel (AllDigits 10) (digits_value 10)
own = record { to = λ ds h. h; from = λ ds h. h; same = λ ds h. refl }

-- A number of 16 bits in decimal parses as itself.
parses : {E : Type 0} (digits : List ℕ) (r : Result ℕ E) (x : ℕ) → ParsesUnsigned 16 10 digits r → x < 65536 → digits ≡ decimal x → r ≡ Ok x
parses digits r x h low is =
    let value : digits_value 10 digits ≡ x = ap (digits_value 10) is ∙ digits_value-decimal own x (omega arith) in
    let all : AllDigits 10 digits = subst (AllDigits 10) (sym is) (digits_decimal own x (omega arith)) in
    let long : 0 < length digits = subst (λ d. 0 < length d) (sym is) (decimal_is_IsNumeral x (omega arith)).0.0 in
    parse_gives own 16 digits r h all long (omega (arith, value)) ∙ ap Ok value

same_ok : {E : Type 0} {x y : ℕ} (r : Result ℕ E) → r ≡ Ok x → r ≡ Ok y → x ≡ y
same_ok r d e = let same = sym d ∙ e in cc

pub returns-in-Ok : goal.returns-in-Ok
returns-in-Ok c =
    let read = c.in-Ok.ensures.value.0 in
    let decides = bytes_eq-Decides c.format.result.now c.args.digits.now in (
      λ e. (c.in-Ok.port, omega (arith, read.0.1, read.1), sym (decides.0 (sym c.eq.ensures ∙ e)) ∙ c.format.ensures.text),
      λ p. let same = same_ok c.parse.result c.in-Ok.is (parses c.args.digits.now c.parse.result p.0 c.parse.ensures.value.0 p.1 p.2) in
          c.eq.ensures ∙ decides.1 (c.format.ensures.text ∙ ap decimal same ∙ sym p.2),
    )

pub returns-in-Err : goal.returns-in-Err
returns-in-Err c = (
  λ e. let bad = e in absurd cc,
  λ p. let bad = parses c.args.digits.now (Err c.in-Err.field-0) p.0 c.in-Err.ensures.value.0 p.1 p.2 in absurd cc,
)
