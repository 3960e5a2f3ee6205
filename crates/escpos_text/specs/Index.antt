-- For private clauses and proofs: the characters of a table in order, each with its first place there.
use Rattle.std.specs.Prelude.{ℕ, ◌&&◌, ◌==◌, Bool, true, false, nat_lt, nat_le, List, [], ◌∷◌, length}
use Rattle.std.specs.List.{list_any, list_all, position_or_len}

unfoldable pub ascends : List ℕ → Bool
ascends [] = true
ascends (x ∷ xs) = list_all (λ y. nat_le x y) xs && ascends xs

-- Each of these characters has this first place in the table.
unfoldable pub are_first : List ℕ → List ℕ → List ℕ → Bool
are_first characters [] [] = true
are_first characters (c ∷ cs) (p ∷ ps) =
    ((position_or_len (λ x. x == c) characters == p) && nat_lt p (length characters)) && are_first characters cs ps
are_first characters [] (p ∷ ps) = false
are_first characters (c ∷ cs) [] = false

unfoldable pub is_index : List ℕ → List ℕ → List ℕ → Bool
is_index characters sorted places =
    (length characters == 128)
    && (ascends sorted && (are_first characters sorted places && list_all (λ x. list_any (λ y. y == x) sorted) characters))
