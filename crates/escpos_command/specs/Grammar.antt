-- What a byte list says, read against the command table alone. None of these definitions reads byte by
-- byte: they ask for a spelling that exists, or speak of a whole list.
use Rattle.std.specs.Prelude.{ℕ, ◌≡◌, ◌≢◌, ◌<◌, ◌⊎◌, List, [], ◌∷◌, ◌++◌, length, take, slice_index}
use Rattle.std.specs.List.{AllByRecursion}
use Rattle.escpos_command.specs.declared.command.Command.{Command}
use Rattle.escpos_command.specs.declared.fault.FaultReason.{FaultReason}
use Rattle.escpos_command.specs.CommandTable.{Spells, IsCommand, spell}
use Rattle.escpos_command.specs.Places.{reason_after}

-- The bytes are a prefix of some spelling, perhaps all of it or nothing.
abbrev pub Viable : List ℕ → Type 0
Viable bs = (c : Command) × (more : List ℕ) × Spells c (bs ++ more)

-- A half command: some bytes of a spelling, and not a spelling yet.
pub record Half (bs : List ℕ) : Type 0 where
  pub begun : bs ≢ []
  pub viable : Viable bs
  pub no_spelling : (c : Command) → Spells c bs → ⊥

-- The bytes are the spellings of the commands cs, one after another, and then nothing or a half command.
pub record Reads (bs : List ℕ) (cs : List Command) (rest : List ℕ) : Type 0 where
  pub commands : AllByRecursion IsCommand cs
  pub whole : bs ≡ spell cs ++ rest
  pub rest_is : (rest ≡ []) ⊎ Half rest

-- The byte at place k is refused: the k bytes before it read as cs and rest, and no spelling begins with
-- rest and that byte. The reason follows from rest.
pub record FaultAt (bs : List ℕ) (cs : List Command) (rest : List ℕ) (k : ℕ) (why : FaultReason) : Type 0 where
  pub place : k < length bs
  pub before : Reads (take k bs) cs rest
  pub refused : Viable (rest ++ slice_index bs k ∷ []) → ⊥
  pub reason : why ≡ reason_after rest
