-- What a byte list says by an earlier profile of this project: by some of the commands of the table alone. The definitions of
-- the grammar are stated again for these commands, so that the laws can say what has changed for programs that relied on what
-- such a profile refused.
use Rattle.std.specs.Prelude.{ℕ, ◌≡◌, ◌≢◌, ◌<◌, ◌⊎◌, Bool, IsTrue, List, [], ◌∷◌, ◌++◌, length, take, slice_index}
use Rattle.std.specs.List.{AllByRecursion}
use Rattle.escpos_command.specs.declared.command.Command.{Command}
use Rattle.escpos_command.specs.declared.fault.FaultReason.{FaultReason}
use Rattle.escpos_command.specs.CommandTable.{Spells, IsCommand, spell}
use Rattle.escpos_command.specs.Places.{reason_after}

-- The bytes are the spelling of a command that the profile has.
abbrev pub SpellsIn : (Command → Bool) → Command → List ℕ → Type 0
SpellsIn has c bs = IsTrue (has c) × Spells c bs

abbrev pub ViableIn : (Command → Bool) → List ℕ → Type 0
ViableIn has bs = (c : Command) × (more : List ℕ) × SpellsIn has c (bs ++ more)

pub record HalfIn (has : Command → Bool) (bs : List ℕ) : Type 0 where
  pub begun : bs ≢ []
  pub viable : ViableIn has bs
  pub no_spelling : (c : Command) → SpellsIn has c bs → ⊥

pub record ReadsIn (has : Command → Bool) (bs : List ℕ) (cs : List Command) (rest : List ℕ) : Type 0 where
  pub commands : AllByRecursion (λ c. IsCommand c × IsTrue (has c)) cs
  pub whole : bs ≡ spell cs ++ rest
  pub rest_is : (rest ≡ []) ⊎ HalfIn has rest

pub record FaultAtIn (has : Command → Bool) (bs : List ℕ) (cs : List Command) (rest : List ℕ) (k : ℕ) (why : FaultReason) : Type 0 where
  pub place : k < length bs
  pub before : ReadsIn has (take k bs) cs rest
  pub refused : ViableIn has (rest ++ slice_index bs k ∷ []) → ⊥
  pub reason : why ≡ reason_after rest

-- The profile reads the list, or refuses one of its bytes.
abbrev pub IsReadIn : (Command → Bool) → List ℕ → Type 0
IsReadIn has bs = (cs : List Command) × (rest : List ℕ) × ReadsIn has bs cs rest

abbrev pub IsRefusedIn : (Command → Bool) → List ℕ → Type 0
IsRefusedIn has bs = (cs : List Command) × (rest : List ℕ) × (k : ℕ) × (why : FaultReason) × FaultAtIn has bs cs rest k why
