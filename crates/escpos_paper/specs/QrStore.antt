-- The model of the data of QR codes that a page keeps: the data, if there is any, and whether there is room for a copy of it.
use Rattle.std.specs.Prelude.{ℕ, nat_le, Bool, true, List, length, Option, None, Some}

pub record Stored : Type 0 where
  pub stored : Option (List ℕ)
  pub ready : Bool

-- A list of this capacity has room for the data.
abbrev pub fits_in : ℕ → Option (List ℕ) → Bool
fits_in capacity None = true
fits_in capacity (Some bytes) = nat_le (length bytes) capacity
