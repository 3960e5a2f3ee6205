-- The tables of the usual choice; and, for private clauses, how a choice is kept.
use Rattle.std.specs.Prelude.{◌≡◌, ◌≤◌, ◌-◌, ℕ, List, [], ◌∷◌, ◌++◌, drop, length, replicate}

-- PC437, PC858, WPC1252, PC852, PC866, PC737, PC857, Katakana, and the others in the order of their numbers.
abbrev pub usual_tables : List ℕ
usual_tables =
    0 ∷ 19 ∷ 16 ∷ 18 ∷ 17 ∷ 14 ∷ 13 ∷ 1
    ∷ 2 ∷ 3 ∷ 4 ∷ 5 ∷ 15 ∷ 32 ∷ 33 ∷ 34 ∷ 35 ∷ 36 ∷ 37 ∷ 38 ∷ 39 ∷ 40 ∷ 44 ∷ 45 ∷ 46 ∷ 47 ∷ 48 ∷ 49 ∷ 50 ∷ 51 ∷ 52 ∷ 53 ∷ []

-- The tables stand first among 32 numbers, and 0 stands after them.
abbrev pub IsChoice : List ℕ → ℕ → Type 0
IsChoice numbers count = (count ≤ 32) × (length numbers ≡ 32) × (drop count numbers ≡ replicate (32 - count) 0)

abbrev pub all_numbers : List ℕ → List ℕ
all_numbers tables = tables ++ replicate (32 - length tables) 0
