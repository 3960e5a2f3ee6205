-- What the calls of a printer answer. Each does what the call of escpos_printer does that it stands for.
use Rattle.std.specs.Prelude.{ℕ, ℤ, pos, ◌≡◌, ◌⊎◌, ◌<◌, ◌≤◌, List, [], ◌∷◌, length, Option, Some, None}
use Rattle.escpos_command.specs.declared.answer.Answer.{Answer}
use Rattle.escpos_command.specs.Answers.{answer_bytes}
use Rattle.escpos_paper.specs.ItemsText.{items_text}
use Rattle.escpos_paper.specs.Page.{SheetIs}
use Rattle.escpos_paper.specs.Torn.{bare}
use Rattle.escpos_printer.specs.declared.condition.Condition.{Condition}
use Rattle.escpos_printer.specs.declared.printer.FeedStop.{FeedStop}
use Rattle.escpos_printer.specs.Feeds.{Feeds, PrinterView}
use Rattle.escpos_printer.specs.Replies.{after_change}
use Rattle.escpos_c.specs.declared.printer.Sensors.{Sensors}
use Rattle.escpos_c.specs.declared.limited_text.TheConstants.{TEXT_LIMIT}
use Rattle.escpos_c.specs.declared.printer_core.PrinterCore.{PrinterCore}
use Rattle.escpos_c.specs.Buffer.{Fills, TooShort}
use Rattle.escpos_c.specs.PrinterNumbers.{stop_kind, stop_place, stop_reason}

-- What the sensors say.
abbrev pub condition_of : Sensors → Condition
condition_of sensors = record { cover_open = sensors.cover_open; near_end = sensors.near_end; paper_end = sensors.paper_end }

-- The printer has just been switched on in this condition, which it doesn't tell unasked. Its lines have this width.
pub record IsNewPrinter (width : ℕ) (printer : PrinterView) (condition : Condition) : Type 0 where
  pub sheet : SheetIs width printer.sheet [] []
  pub half : printer.half ≡ []
  pub waiting : printer.waiting ≡ []
  pub condition_is : printer.condition ≡ condition
  pub automatic : printer.automatic ≡ 0

-- The handle holds such a printer.
abbrev pub HoldsNewPrinter : ℕ → Option PrinterCore → Condition → Type 0
HoldsNewPrinter width None condition = ⊥
HoldsNewPrinter width (Some core) condition = IsNewPrinter width core.printer condition

-- Bytes were fed up to a stop, of which the caller is told the kind, and of a fault its reason and its place.
abbrev pub FeedsBytes : List ℕ → ℕ → ℕ → ℕ → ℕ → PrinterCore → PrinterCore → Type 0
FeedsBytes bytes consumed kind reason at old new =
    (stop : FeedStop) × Feeds old.printer bytes consumed stop new.printer
    × (kind ≡ stop_kind stop) × (reason ≡ stop_reason stop) × (at ≡ stop_place stop)

-- The answer that has waited longest is at the start of the buffer and waits no longer; if none waits, nothing changes.
abbrev pub GivesAnswer : PrinterView → PrinterView → List ℕ → List ℕ → ℕ → Type 0
GivesAnswer printer next before after written =
    ((printer.waiting ≡ []) × (next ≡ printer) × (written ≡ 0) × (after ≡ before))
    ⊎ ((answer : Answer) × (answers : List Answer) × (printer.waiting ≡ answer ∷ answers)
    × (next ≡ record { sheet = printer.sheet; half = printer.half; waiting = answers; condition = printer.condition; automatic = printer.automatic })
    × Fills before after written (answer_bytes answer))

-- The longest answer has 7 bytes. A buffer that has room for it is given the answer that has waited longest, and nothing if none
-- waits; a shorter one is as it was, and so is the printer.
abbrev pub TakesAnswer : ℤ → List ℕ → List ℕ → ℕ → PrinterCore → PrinterCore → Type 0
TakesAnswer status before after written old new =
    ((7 ≤ length before) × (status ≡ pos 0) × GivesAnswer old.printer new.printer before after written)
    ⊎ ((length before < 7) × (status ≡ pos 5) × (written ≡ 7) × (after ≡ before) × (new ≡ old))

-- The text of the paper is given, or the buffer is too short for it; or memory ran out, or the text has more bytes than any may.
abbrev pub GivesPaper : ℤ → List ℕ → List ℕ → ℕ → PrinterCore → Type 0
GivesPaper status before after written core =
    ((status ≡ pos 0) × (written ≤ TEXT_LIMIT) × Fills before after written (items_text core.printer.sheet.items))
    ⊎ ((status ≡ pos 5) × (written ≤ TEXT_LIMIT) × TooShort before after written (items_text core.printer.sheet.items))
    ⊎ ((status ≡ pos 4) × (written ≡ 0) × (after ≡ before))
    ⊎ ((status ≡ pos 6) × (TEXT_LIMIT < length (items_text core.printer.sheet.items)) × (written ≡ 0) × (after ≡ before))

-- The sensors say this now; a printer that tells its condition unasked has the block of it among the answers that wait.
abbrev pub with_condition : PrinterView → Condition → PrinterView
with_condition printer condition = record {
  sheet = printer.sheet;
  half = printer.half;
  waiting = after_change printer.automatic printer.condition condition printer.waiting;
  condition = condition;
  automatic = printer.automatic;
}

abbrev pub torn : PrinterView → PrinterView
torn printer = record { sheet = bare printer.sheet; half = printer.half; waiting = printer.waiting; condition = printer.condition; automatic = printer.automatic }
