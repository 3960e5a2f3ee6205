-- What feeding a piece of a stream to a printer does. It speaks of the whole piece; the code takes it byte by byte.
use Rattle.std.specs.Prelude.{ℕ, ◌≡◌, ◌<◌, ◌≤◌, ◌⊎◌, Bool, true, false, IsTrue, List, [], ◌∷◌, ◌++◌, length, take, slice_index}
use Rattle.std.specs.List.{AllByRecursion}
use Rattle.escpos_command.specs.declared.answer.Answer.{Answer}
use Rattle.escpos_command.specs.declared.command.Command.{Command}
use Rattle.escpos_command.specs.declared.command.Command.TheVariants as kind
use Rattle.escpos_command.specs.CommandTable.{Spells}
use Rattle.escpos_command.specs.Grammar.{Viable, Reads, FaultAt}
use Rattle.escpos_decode.specs.Push.{begins_content}
use Rattle.escpos_paper.specs.declared.item.Item.{Item}
use Rattle.escpos_paper.specs.Page.{Sheet, SheetIs}
use Rattle.escpos_printer.specs.declared.condition.Condition.{Condition}
use Rattle.escpos_printer.specs.declared.printer.FeedStop.{FeedStop}
use Rattle.escpos_printer.specs.declared.printer.FeedStop.TheVariants.{All, AnswersFull, Offline, Fault, Memory}
use Rattle.escpos_printer.specs.Blocks.{MayWait, most_waiting, others, with_one_block}
use Rattle.escpos_printer.specs.Replies.{automatic_after, is_offline, replies}

-- The model of a printer: what is on its paper and what commands have left there, the half command, the answers that wait,
-- what its sensors say, and the setting of automatic status.
pub record PrinterView : Type 0 where
  pub sheet : Sheet
  pub half : List ℕ
  pub waiting : List Answer
  pub condition : Condition
  pub automatic : ℕ

-- Offline no command but a status request is carried out.
abbrev pub is_status : Command → Bool
is_status (kind.Status n) = true
is_status _ = false

abbrev pub PassesOffline : Condition → Command → Type 0
PassesOffline condition c = IsTrue (is_offline condition) → IsTrue (is_status c)

-- A command has an answer for which there has to be room. (A block has room of its own.)
abbrev pub IsAnswered : Condition → Command → Type 0
IsAnswered condition c = length (others (replies condition (c ∷ []))) ≡ 1

-- These bytes were read as these commands, which the page took in lines of the width that it had; offline all of them are status requests.
pub record Ran (before : PrinterView) (bytes : List ℕ) (commands : List Command) (after : PrinterView) : Type 0 where
  pub reads : Reads (before.half ++ bytes) commands after.half
  pub page : (width : ℕ) (kept : List Item) (cs : List Command) → SheetIs width before.sheet kept cs → SheetIs width after.sheet kept (cs ++ commands)
  pub condition : after.condition ≡ before.condition
  pub automatic : after.automatic ≡ automatic_after before.automatic commands
  pub passes : AllByRecursion (PassesOffline before.condition) commands

-- These bytes were taken: they ran, their answers wait, and no more answers wait than may.
pub record Took (before : PrinterView) (bytes : List ℕ) (commands : List Command) (after : PrinterView) : Type 0 where
  pub ran : Ran before bytes commands after
  pub answers : after.waiting ≡ with_one_block (before.waiting ++ replies before.condition commands)
  pub room : MayWait after.waiting

-- Why the byte after the half command of this printer isn't taken. Of several causes at one byte the first of these counts:
-- a fault, a printer that is offline, answers that would be too many, a failed allocation.
abbrev pub HasCause : FeedStop → PrinterView → ℕ → Type 0
HasCause All printer b = ⊥
HasCause (Fault at why) printer b = FaultAt (printer.half ++ b ∷ []) [] printer.half (length printer.half) why
HasCause Offline printer b =
    (c : Command) × Spells c (printer.half ++ b ∷ []) × IsTrue (is_offline printer.condition) × (is_status c ≡ false)
HasCause AnswersFull printer b =
    (c : Command) × Spells c (printer.half ++ b ∷ []) × PassesOffline printer.condition c × IsAnswered printer.condition c
    × (length (others printer.waiting) ≡ most_waiting)
HasCause Memory printer b =
    Viable (printer.half ++ b ∷ [])
    × ((c : Command) → Spells c (printer.half ++ b ∷ []) → PassesOffline printer.condition c
    × (IsAnswered printer.condition c → length (others printer.waiting) < most_waiting))
    × (IsTrue (begins_content (printer.half ++ b ∷ [])) ⊎ ((c : Command) × Spells c (printer.half ++ b ∷ [])))

-- The half command after a stop: a fault drops it.
abbrev pub left_half : FeedStop → List ℕ → List ℕ
left_half (Fault at why) half = []
left_half _ half = half

-- A fault names the place of the byte in the piece.
abbrev pub IsPlace : FeedStop → ℕ → Type 0
IsPlace (Fault at why) k = at ≡ k
IsPlace _ k = Unit {0}

-- What a stop leaves of the printer that took the bytes before it.
abbrev pub IsLeft : FeedStop → PrinterView → PrinterView → Type 0
IsLeft stop taken after =
    after ≡ record { sheet = taken.sheet; half = left_half stop taken.half; waiting = taken.waiting; condition = taken.condition; automatic = taken.automatic }

-- The first k bytes of the piece were taken; then the piece has ended, or the byte after them isn't taken for this cause.
-- No byte before it has a cause: these bytes are read, and the commands that they complete are taken.
pub record Feeds (before : PrinterView) (piece : List ℕ) (k : ℕ) (stop : FeedStop) (after : PrinterView) : Type 0 where
  pub commands : List Command
  pub taken : PrinterView
  pub within : k ≤ length piece
  pub took : Took before (take k piece) commands taken
  pub cause : ((stop ≡ All) × (k ≡ length piece)) ⊎ ((k < length piece) × HasCause stop taken (slice_index piece k))
  pub place : IsPlace stop k
  pub leaves : IsLeft stop taken after
