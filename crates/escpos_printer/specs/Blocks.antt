-- Blocks of automatic status among the answers of a printer. At most one waits: a newer one takes the place of one that waits.
use Rattle.std.specs.Prelude.{ℕ, ◌≡◌, ◌≤◌, Bool, true, false, List, [], ◌∷◌, length, slice_get, Option, None, Some, filter, filter_map}
use Rattle.std.specs.List.{flat_map}
use Rattle.escpos_command.specs.declared.answer.Answer.{Answer}
use Rattle.escpos_command.specs.declared.answer.Answer.TheVariants as answer
use Rattle.escpos_command.specs.Settings.{last_or}

-- The most answers other than a block that wait.
abbrev pub most_waiting : ℕ
most_waiting = 16

-- The bytes of a block; none for any other answer.
abbrev pub block_of : Answer → Option (List ℕ)
block_of (answer.Condition bytes) = Some bytes
block_of _ = None

abbrev pub is_other : Answer → Bool
is_other (answer.Condition bytes) = false
is_other _ = true

-- The blocks among answers, and the other answers, each in order.
abbrev pub blocks : List Answer → List (List ℕ)
blocks answers = filter_map block_of answers

abbrev pub others : List Answer → List Answer
others answers = filter is_other answers

-- The answer at this place is a block.
abbrev pub IsBlockAt : List Answer → ℕ → Type 0
IsBlockAt answers place = (bytes : List ℕ) × (slice_get answers place ≡ Some (answer.Condition bytes))

-- Answers as they wait: at the place of the first block stands the newest one, and there is no further block.
abbrev pub with_one_block : List Answer → List Answer
with_one_block [] = []
with_one_block (answer.Condition bytes ∷ answers) = answer.Condition (last_or bytes (blocks answers)) ∷ others answers
with_one_block (answer.Status b ∷ answers) = answer.Status b ∷ with_one_block answers
with_one_block (answer.Mark id ∷ answers) = answer.Mark id ∷ with_one_block answers

-- These answers may wait.
pub record MayWait (answers : List Answer) : Type 0 where
  pub room : length (others answers) ≤ most_waiting
  pub one_block : length (blocks answers) ≤ 1

-- All these answers were put out in parts, one part after another. Each part waited before it went out, so it had one block.
pub record PutInParts (all out : List Answer) : Type 0 where
  pub parts : List (List Answer)
  pub whole : all ≡ flat_map (λ part. part) parts
  pub put : out ≡ flat_map with_one_block parts
