-- Numbers of dots in a document. Places down the paper are counted in quarters of a dot, since a motion unit is half a dot
-- and a base line stands at three quarters of a row.
use Rattle.std.specs.Prelude.{ℕ, ◌/◌, ◌%◌, ◌==◌, List, [], ◌++◌, codes, decimal, if◌then◌else◌}

-- A number of quarters below 4, as the decimals that follow a point.
abbrev pub fraction : ℕ → List ℕ
fraction n = if n == 0 then [] else if n == 1 then codes ".25" else if n == 2 then codes ".5" else codes ".75"

-- A number of quarters, in dots.
abbrev pub quarters : ℕ → List ℕ
quarters n = decimal (n / 4) ++ fraction (n % 4)
