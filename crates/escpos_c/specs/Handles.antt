-- What a call does with what a handle holds.
use Rattle.std.specs.Prelude.{Option, Some, None}

-- Where the handle holds a value, this, and it holds a value after the call; where it holds nothing, that, and it holds nothing
-- after it.
abbrev pub OnHandle : {X : Type 0} → Option X → Option X → (X → X → Type 0) → Type 0 → Type 0
OnHandle (Some old) (Some new) held empty = held old new
OnHandle None None held empty = empty
OnHandle _ _ held empty = ⊥
