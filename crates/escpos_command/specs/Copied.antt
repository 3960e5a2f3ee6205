-- Bytes copied, from a place on, to the start of a buffer.
use Rattle.std.specs.Prelude.{ℕ, ◌≡◌, ◌-◌, min, List, ◌++◌, length, take, drop}

-- These bytes, from place `from` on, are at the start of the buffer, as many as there are and fit; the rest of the buffer
-- is as it was.
pub record Copied (old new bytes : List ℕ) (from count : ℕ) : Type 0 where
  pub counted : count ≡ min (length old) (length bytes - from)
  pub copied : new ≡ take count (drop from bytes) ++ drop count old
