-- A list of four, item by item.
use Rattle.std.proofs.Common.{◌≡◌, ℕ, List, [], ◌∷◌, length, refl, arith, get_or}

pub four_items : (xs : List ℕ) → length xs ≡ 4 → xs ≡ get_or xs 0 0 ∷ get_or xs 1 0 ∷ get_or xs 2 0 ∷ get_or xs 3 0 ∷ []
four_items (a ∷ b ∷ c ∷ d ∷ []) h = refl
four_items [] h = absurd (omega arith)
four_items (a ∷ []) h = absurd (omega arith)
four_items (a ∷ b ∷ []) h = absurd (omega arith)
four_items (a ∷ b ∷ c ∷ []) h = absurd (omega arith)
four_items (a ∷ b ∷ c ∷ d ∷ e ∷ xs) h = absurd (omega arith)
