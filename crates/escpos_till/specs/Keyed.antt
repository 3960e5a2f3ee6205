-- Keys, each with the number of its receipt. For private clauses and proofs alone.
use Rattle.std.specs.Prelude.{ℕ, ◌≡◌, ◌⊎◌, List, [], ◌∷◌}

abbrev pub Keyed : Type 0
Keyed = List ℕ × ℕ

-- The keys, and for how many there is room.
pub record KeyTable : Type 0 where
  pub items : List Keyed
  pub cap : ℕ

-- The key is among these, with this number.
abbrev pub ListsKey : List Keyed → List ℕ → ℕ → Type 0
ListsKey [] key number = ⊥
ListsKey (k ∷ ks) key number = ((k.0 ≡ key) × (k.1 ≡ number)) ⊎ ListsKey ks key number

-- A key is among these with this number.
abbrev pub ListsNumber : List Keyed → ℕ → Type 0
ListsNumber [] number = ⊥
ListsNumber (k ∷ ks) number = (k.1 ≡ number) ⊎ ListsNumber ks number
