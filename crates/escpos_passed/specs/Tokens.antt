-- What a byte list says to a reader that passes over commands: a list of tokens, each a command of the command table or one that is passed
-- over.
use Rattle.std.specs.Prelude.{ℕ, ◌≡◌, ◌+◌, ◌<◌, Bool, true, false, List, [], ◌∷◌, ◌++◌, length, map}
use Rattle.std.specs.List.{flat_map, AllByRecursion}
use Rattle.escpos_command.specs.declared.command.Command.{Command}
use Rattle.escpos_command.specs.declared.fault.FaultReason.{FaultReason}
use Rattle.escpos_command.specs.CommandTable.{IsCommand, row}
use Rattle.escpos_command.specs.Grammar.{Half, Reads, FaultAt}
use Rattle.escpos_passed.specs.Table.{table, row_at, IsPassed, IsPassedBy, IsPart}

-- A command of the command table, or one of this row of the table of those that are passed over.
pub data Token : Type 0 where
  taken : Command → Token
  passed : ℕ → List ℕ → Token

abbrev pub IsToken : Token → Type 0
IsToken (taken c) = IsCommand c
IsToken (passed i bs) = (i < length table) × IsPassedBy (row_at table i) bs

abbrev pub bytes_of : Token → List ℕ
bytes_of (taken c) = row c
bytes_of (passed i bs) = bs

abbrev pub spell_tokens : List Token → List ℕ
spell_tokens ts = flat_map bytes_of ts

-- How many of them are passed over.
abbrev pub passed_count : List Token → ℕ
passed_count [] = 0
passed_count (taken c ∷ ts) = passed_count ts
passed_count (passed i bs ∷ ts) = passed_count ts + 1

-- The commands of the command table among them.
abbrev pub commands_of : List Token → List Command
commands_of [] = []
commands_of (taken c ∷ ts) = c ∷ commands_of ts
commands_of (passed i bs ∷ ts) = commands_of ts

-- Nothing, or the start of a token.
pub data IsRest (rest : List ℕ) : Type 0 where
  nothing : rest ≡ [] → IsRest rest
  half : Half rest → IsRest rest
  part : IsPart rest → IsRest rest

-- The bytes are those of these tokens, one after another, and then nothing or the start of one.
pub record ReadsTokens (bs : List ℕ) (ts : List Token) (rest : List ℕ) : Type 0 where
  pub tokens : AllByRecursion IsToken ts
  pub whole : bs ≡ spell_tokens ts ++ rest
  pub rest_is : IsRest rest

-- After these tokens stand bytes of which the command table refuses one within its first command, and which aren't the start of a
-- command that is passed over. The place is that of the refused byte.
pub record FaultAfter (bs : List ℕ) (ts : List Token) (k : ℕ) (why : FaultReason) : Type 0 where
  pub left : List ℕ
  pub rest : List ℕ
  pub after : ℕ
  pub tokens : AllByRecursion IsToken ts
  pub whole : bs ≡ spell_tokens ts ++ left
  pub fault : FaultAt left [] rest after why
  pub place : k ≡ length (spell_tokens ts) + after
  pub not_passed : (some more : List ℕ) → left ≡ some ++ more → IsPassed some → ⊥
  pub no_part : IsPart left → ⊥

-- The same for a reader that passes over commands, or over none.
abbrev pub ReadsWith : Bool → List ℕ → List Token → List ℕ → Type 0
ReadsWith false bs ts rest = (cs : List Command) × (ts ≡ map taken cs) × Reads bs cs rest
ReadsWith true bs ts rest = ReadsTokens bs ts rest

abbrev pub FaultWith : Bool → List ℕ → List Token → ℕ → FaultReason → Type 0
FaultWith false bs ts k why = (cs : List Command) × (rest : List ℕ) × (ts ≡ map taken cs) × FaultAt bs cs rest k why
FaultWith true bs ts k why = FaultAfter bs ts k why
