-- What one more command changes of what is kept. Only private clauses and proofs use these definitions.
use Rattle.std.specs.Prelude.{ℕ, ◌≡◌, false, List, [], ◌∷◌, ◌++◌}
use Rattle.escpos_command.specs.declared.command.Command.{Command}
use Rattle.escpos_command.specs.Settings.{is_init}
use Rattle.escpos_stream.specs.Streams.{AreInits, Placed, commands_of, places_of, without_questions}

-- These are the commands so far, and their places, without the questions and each ESC @ at the beginning, and without this end.
pub record Kept (cs commands : List Command) (places : List ℕ) : Type 0 where
  pub opening : List Placed
  pub kept : List Placed
  pub closing : List Placed
  pub split : without_questions cs ≡ opening ++ kept ++ closing
  pub opens : AreInits opening
  pub closes : AreInits closing
  pub first : (p : Placed) (more : List Placed) → kept ≡ p ∷ more → is_init p.command ≡ false
  pub commands_are : commands ≡ commands_of kept
  pub places_are : places ≡ places_of kept

-- The same, with no end left out.
pub record KeptSoFar (cs commands : List Command) (places : List ℕ) : Type 0 where
  pub opening : List Placed
  pub kept : List Placed
  pub split : without_questions cs ≡ opening ++ kept
  pub opens : AreInits opening
  pub first : (p : Placed) (more : List Placed) → kept ≡ p ∷ more → is_init p.command ≡ false
  pub commands_are : commands ≡ commands_of kept
  pub places_are : places ≡ places_of kept

-- The last of the commands isn't ESC @.
abbrev pub EndsOtherwise : List Command → Type 0
EndsOtherwise commands = (before : List Command) (c : Command) → commands ≡ before ++ c ∷ [] → is_init c ≡ false
