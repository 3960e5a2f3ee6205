-- How many characters a line has.
use Rattle.std.specs.Prelude.{ℕ, ◌/◌, zero, suc}
use Rattle.escpos_paper.specs.Dots.{style_dots}
use Rattle.escpos_paper.specs.declared.style.Style.{Style}

abbrev pub at_least_one : ℕ → ℕ
at_least_one zero = 1
at_least_one (suc n) = suc n

-- As many as fit between the ends of a line of so many dots, and at least one.
abbrev pub columns_of : ℕ → Style → ℕ
columns_of width s = at_least_one (width / style_dots s)
