-- The same, found from the first byte on. Only private clauses and proofs use this definition.
use Rattle.std.specs.Prelude.{ℕ, ◌||◌, Bool, false, List, ◌∷◌}
use Rattle.escpos_real_time.specs.RealTime.{is_real_time}

abbrev pub holds : List ℕ → Bool
holds (a ∷ b ∷ n ∷ bytes) = is_real_time a b n || holds (b ∷ n ∷ bytes)
holds bytes = false
