-- The lines of a script. Each ends with a line feed, which isn't part of it; after the last one it may be missing.
use Rattle.std.specs.Prelude.{ℕ, ◌≡◌, ◌≢◌, ◌⊎◌, zero, suc, List, [], ◌∷◌, ◌++◌}
use Rattle.std.specs.List.{AllByRecursion}
use Rattle.escpos_command.specs.declared.bytes.TheConstants.{LF}

-- The text begins with this line, in which there is no line feed, and this follows it.
pub record IsFirstLine (text line rest : List ℕ) : Type 0 where
  pub unbroken : AllByRecursion (λ b. b ≢ LF) line
  pub split : (text ≡ line ++ LF ∷ rest) ⊎ ((text ≡ line) × (line ≢ []) × (rest ≡ []))

-- After so many lines of the script this is left of it.
abbrev pub AfterLines : ℕ → List ℕ → List ℕ → Type 0
AfterLines zero script rest = script ≡ rest
AfterLines (suc count) script rest = (line : List ℕ) × (next : List ℕ) × IsFirstLine script line next × AfterLines count next rest
