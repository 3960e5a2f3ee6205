-- What a host must still put on its link: the bytes of parts, one after another, without those that are out. Only private
-- clauses, invariants and proofs use these definitions.
use Rattle.std.specs.Prelude.{Bool, true, false, ℕ, ◌≡◌, ◌<◌, ◌≤◌, List, [], ◌∷◌, ◌++◌, length, take, drop, slice_index_or}
use Rattle.std.specs.List.{flat_map, AllByRecursion}
use Rattle.escpos_command.specs.declared.command.Command.{Command}
use Rattle.escpos_command.specs.declared.command.Command.TheVariants as kind
use Rattle.escpos_command.specs.CommandTable.{row, spell}
use Rattle.escpos_host.specs.Machine.{ask_reports}
use Rattle.escpos_host.specs.declared.outbox.OutPart.{OutPart}
use Rattle.escpos_host.specs.declared.outbox.OutPart.TheVariants as part

-- What is pending: parts, and how many commands of the first part, and bytes of its next command, are out.
pub record Pending : Type 0 where
  pub parts : List OutPart
  pub item : ℕ
  pub from : ℕ

-- The commands of a part. A receipt is the list of its commands.
abbrev pub part_commands : List (List Command) → OutPart → List Command
part_commands receipts (part.Mark id) = kind.Mark id ∷ []
part_commands receipts (part.Opening id) = ask_reports ∷ kind.Mark id ∷ []
part_commands receipts (part.Ask n) = kind.Status n ∷ []
part_commands receipts part.AskReports = ask_reports ∷ []
part_commands receipts (part.Receipt place closing) = kind.Init ∷ (slice_index_or receipts place [] ++ kind.Mark closing ∷ [])

-- What a link begins with: the first opening mark, after a request for automatic status or without one.
abbrev pub opening_commands : Bool → List ℕ → List Command
opening_commands true id = ask_reports ∷ kind.Mark id ∷ []
opening_commands false id = kind.Mark id ∷ []

-- The bytes that are still to be taken out.
abbrev pub unsent : List (List Command) → Pending → List ℕ
unsent receipts o = drop o.from (spell (drop o.item (flat_map (part_commands receipts) o.parts)))

-- The receipt of the part is one of these.
abbrev pub IsPlaced : List (List Command) → OutPart → Type 0
IsPlaced receipts (part.Receipt place closing) = place < length receipts
IsPlaced receipts _ = Unit {0}

-- The next byte is one of the first part, if there is a part.
abbrev pub IsInFirst : List (List Command) → List OutPart → ℕ → ℕ → Type 0
IsInFirst receipts [] item from = (item ≡ 0) × (from ≡ 0)
IsInFirst receipts (p ∷ ps) item from =
    (item < length (part_commands receipts p)) × (from < length (row (slice_index_or (part_commands receipts p) item kind.Init)))

-- The pending parts are of these receipts.
pub record Within (receipts : List (List Command)) (o : Pending) : Type 0 where
  pub placed : AllByRecursion (IsPlaced receipts) o.parts
  pub in_first : IsInFirst receipts o.parts o.item o.from

-- This many of the bytes that were left are copied to the start of the buffer, and the others are still left.
pub record CopiedOut (receipts : List (List Command)) (before after : Pending) (old new : List ℕ) (count : ℕ) : Type 0 where
  pub fits : count ≤ length old
  pub enough : count ≤ length (unsent receipts before)
  pub copied : new ≡ take count (unsent receipts before) ++ drop count old
  pub others : unsent receipts after ≡ drop count (unsent receipts before)
  pub within : Within receipts after
