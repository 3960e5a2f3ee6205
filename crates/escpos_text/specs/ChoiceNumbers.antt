-- For private clauses: a choice's tables give its numbers back.
use Rattle.std.proofs.Common.{◌≡◌, ℕ, ◌-◌, List, ◌++◌, take, length, sym, ap, ◌∙◌, arith, take-append-drop, length-take-le}
use Rattle.std.specs.Prelude.{replicate}
use Rattle.escpos_text.specs.Choices.{IsChoice, all_numbers}

pub count_again : (numbers : List ℕ) (count : ℕ) → IsChoice numbers count → length (take count numbers) ≡ count
count_again numbers count is = length-take-le count numbers (omega (arith, is.0, is.1))

pub numbers_again : (numbers : List ℕ) (count : ℕ) → IsChoice numbers count → all_numbers (take count numbers) ≡ numbers
numbers_again numbers count is =
    ap (λ n. take count numbers ++ replicate (32 - n) 0) (count_again numbers count is)
    ∙ ap (λ xs. take count numbers ++ xs) (sym is.2)
    ∙ take-append-drop count numbers
