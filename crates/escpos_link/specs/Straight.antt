-- A receipt that goes over a line on which nothing is under way and nothing goes wrong.
use Rattle.std.specs.Prelude.{ℕ, ◌≡◌, ◌+◌, ◌<◌, ◌≤◌, ◌⊎◌, false, List, [], ◌∷◌, ◌++◌, length, Option, Some, None}
use Rattle.escpos_command.specs.declared.command.Command.{Command}
use Rattle.escpos_paper.specs.Printed.{printed}
use Rattle.escpos_printer.specs.Replies.{is_offline}
use Rattle.escpos_host.specs.Machine.{Phase, Down, Open, mark_limit}
use Rattle.escpos_link.specs.declared.event.Event.{Event}
use Rattle.escpos_link.specs.declared.event.Event.TheVariants as event
use Rattle.escpos_link.specs.Line.{LineView}
use Rattle.escpos_link.specs.Steps.{Happened, StopsIn}

-- How many marks it takes to send a receipt: its closing mark, and one to open a link if there is none.
abbrev pub marks_for : Phase → ℕ
marks_for Down = 2
marks_for _ = 1

-- There is no link and the host is down; or the host is ready on one live link that is empty, and has nothing to take out.
abbrev pub IsAtRest : LineView → Type 0
IsAtRest l =
    (l.ended ≡ [])
    × (((l.host.phase ≡ Down) × (l.live ≡ None)) ⊎ ((l.host.phase ≡ Open []) × (l.live ≡ Some []) × (l.host.out ≡ [])))

-- The printer is online, with no half command and no answer that waits, and no answer is on its way.
pub record IsSilent (l : LineView) : Type 0 where
  pub online : is_offline l.printer.condition ≡ false
  pub no_half : l.printer.half ≡ []
  pub no_answer : l.printer.waiting ≡ []
  pub quiet : l.coming ≡ []

-- There are marks enough for a receipt.
abbrev pub HasMarks : LineView → Type 0
HasMarks l = l.host.next + marks_for l.host.phase ≤ mark_limit l.host

-- Nothing is under way, and there are marks enough for a receipt.
pub record Undisturbed (l : LineView) : Type 0 where
  pub at_rest : IsAtRest l
  pub silent : IsSilent l
  pub marks : HasMarks l

-- More bytes than any link has.
abbrev pub all_bytes : ℕ
all_bytes = 18446744073709551615

-- All that is to be taken out reaches the printer, and an answer to it the host.
abbrev pub exchange : List Event
exchange = event.Move all_bytes ∷ event.Deliver all_bytes ∷ event.HandOver ∷ event.Answer all_bytes ∷ []

abbrev pub opening : Phase → List Event
opening Down = event.LinkUp ∷ exchange
opening _ = []

-- The events that send a receipt, and those of them before it is submitted.
abbrev pub straight_events : Phase → List Command → List Event
straight_events phase receipt = opening phase ++ (event.Submit receipt ∷ exchange)

-- The receipt is recorded, with this number, and printed, in lines of the width that the printer has, and nothing is under
-- way.
pub record WentStraight (l : LineView) (receipt : List Command) (number : ℕ) (after : LineView) : Type 0 where
  pub number_is : number ≡ length l.host.records
  pub recorded : after.host.records ≡ l.host.records ++ receipt ∷ []
  pub printed_after : after.printer.sheet.items ≡ l.printer.sheet.items ++ printed l.printer.sheet.line_dots receipt
  pub ready : after.host.phase ≡ Open []
  pub link : (after.ended ≡ []) × (after.live ≡ Some [])
  pub next : after.host.next ≡ l.host.next + marks_for l.host.phase
  pub heard : after.host.heard ≡ after.host.next
  pub out : after.host.out ≡ []
  pub silent : IsSilent after
  pub happened : Happened l (straight_events l.host.phase receipt) after

-- An allocation failed in one of these events; those before it happened. The receipt comes back if it wasn't submitted.
pub record StoppedStraight (l : LineView) (receipt : List Command) (back : Option (List Command)) (after : LineView) : Type 0 where
  pub stops : StopsIn (straight_events l.host.phase receipt) l after
  pub receipt_back :
      ((back ≡ Some receipt) × (length stops.done ≤ length (opening l.host.phase))) ⊎ ((back ≡ None) × (length (opening l.host.phase) < length stops.done))
