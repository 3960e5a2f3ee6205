-- Why records can be trusted: what holds for a line at all times. It is in one of the four ways, so the records stand on the
-- paper; and what is left of an older link is promised. For as long as the link isn't open, an answer to the closing mark of a
-- receipt that is left may come, and records it after those that are left before it.
--
-- `Trusting`, at the end, is the law of the line: the contract of the function `trust`. It is for whoever takes a line from
-- event to event; what a line's owner wants to know is `Stands`, which the law gives him.
use Rattle.std.specs.Prelude.{ℕ, ◌≡◌, ◌<◌, ◌≤◌, List, [], ◌∷◌, ◌++◌}
use Rattle.escpos_command.specs.declared.command.Command.{Command}
use Rattle.escpos_command.specs.declared.command.Command.TheVariants as kind
use Rattle.escpos_command.specs.CommandTable.{AreCommands, IsCommand}
use Rattle.escpos_host.specs.Counted.{id_of}
use Rattle.escpos_command.specs.Marks.{marks}
use Rattle.escpos_host.specs.Machine.{HostView, InFlight, IsSound, Phase, Open, handed_out}
use Rattle.escpos_link.specs.declared.event.Event.{Event}
use Rattle.escpos_link.specs.declared.event.Event.TheVariants as event
use Rattle.escpos_link.specs.declared.event.Note.{Note}
use Rattle.escpos_link.specs.EventTable.{After, Leaves}
use Rattle.escpos_link.specs.Line.{IsLine, LineView}
use Rattle.escpos_link.specs.Promised.{PromisedIn}
use Rattle.escpos_link.specs.Resumed.{resumed, resumed_from}
use Rattle.escpos_link.specs.Stands.{Stands}
use Rattle.escpos_link.specs.Steps.{IsInTurn}
use Rattle.escpos_link.specs.Ways.{OnWay}
use Rattle.escpos_link.specs.Wire.{WireView, line_of}

-- The receipt's closing mark has a number below the next one. As long as it may be answered, the receipt is promised after these.
pub record IsPromised (width : ℕ) (records : List (List Command)) (p : InFlight) (l : LineView) : Type 0 where
  pub put : p.number < l.host.next
  pub mark : p.mark ≡ id_of p.number
  pub promise : l.host.heard ≤ p.number → PromisedIn width records p l

-- Each of these receipts is promised after those before it, which come after the records.
abbrev pub AllPromised : ℕ → List (List Command) → List InFlight → LineView → Type 0
AllPromised width records [] l = Unit {0}
AllPromised width records (p ∷ ps) l = IsPromised width records p l × AllPromised width (records ++ p.receipt ∷ []) ps l

-- The host may hear an answer to a mark of an older link, on this link or on the next one.
abbrev pub IsNotOpen : Phase → Type 0
IsNotOpen (Open flight) = ⊥
IsNotOpen phase = Unit {0}

-- What holds for a line whose printer prints lines of this width, so that its records can be trusted.
pub record Trusted (width : ℕ) (l : LineView) : Type 0 where
  pub on_way : OnWay width l
  pub left : IsNotOpen l.host.phase → AllPromised width l.host.records l.host.left l

-- The same for the width that the line's printer has; and it still holds, for that width, after something happened.
abbrev pub IsTrusted : LineView → Type 0
IsTrusted l = Trusted l.printer.sheet.line_dots l

abbrev pub StillTrusted : LineView → LineView → Type 0
StillTrusted l after = IsTrusted after × (after.printer.sheet.line_dots ≡ l.printer.sheet.line_dots)

-- ## Event after event

-- What an event may be made of: a receipt has no mark, and all commands are in range.
abbrev pub IsFitting : Event → Type 0
IsFitting (event.Submit receipt) = (marks receipt ≡ []) × AreCommands receipt
IsFitting (event.Ask n) = IsCommand (kind.Status n)
IsFitting _ = Unit {0}

-- The law of the line: where records can be trusted, they stand on the paper; they can still be trusted after any event and
-- after any refusal, if the host goes on with fewer records, even if it doesn't know all that it had heard, and if a receipt
-- that is left is taken; a host whose marks are all answered may go on with any number; and the host hears no byte that fits no answer.
pub record Trusting : Type 0 where
  pub stands : (l : LineView) → IsTrusted l → Stands l.printer.sheet.line_dots l.host.records l.printer.sheet.items
  pub kept : (e : Event) (l after : LineView) (n : Note) → IsFitting e → IsSound l.host → IsLine l → After e l n after → IsTrusted l → StillTrusted l after
  pub leaves : (e : Event) (l after : LineView) → IsSound l.host → IsLine l → Leaves e l after → IsTrusted l → StillTrusted l after
  pub in_turn : (e : Event) (l after : LineView) (n : Note) → IsLine l → IsTrusted l → After e l n after → IsInTurn n
  pub resumes : (l : LineView) (f count : ℕ) → l.host.next ≤ f → IsTrusted l → StillTrusted l (resumed l f count)
  pub resumes_from : (l : LineView) (f count heard : ℕ) → l.host.next ≤ f → heard ≤ l.host.heard → IsTrusted l
      → StillTrusted l (resumed_from l f count heard)
  pub resumes_answered : (l : LineView) (f count heard : ℕ) → l.host.next ≤ l.host.heard → heard ≤ f → IsTrusted l → StillTrusted l (resumed_from l f count heard)
  pub taken : (h : HostView) (w : WireView) → IsTrusted (line_of h w) → StillTrusted (line_of h w) (line_of (handed_out h) w)
