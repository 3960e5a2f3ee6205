-- Steps that may fail, one after another.
use Rattle.std.specs.Prelude.{List, ◌++◌, Option, None, Some}

-- What comes of a value that is there.
abbrev pub given : {A B : Type 0} → Option A → (A → Option B) → Option B
given None next = None
given (Some x) next = next x

-- These elements and then those of a list that is there.
abbrev pub joined : {A : Type 0} → List A → Option (List A) → Option (List A)
joined xs None = None
joined xs (Some ys) = Some (xs ++ ys)
