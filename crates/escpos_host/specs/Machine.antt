-- The host machine: the protocol of a receipt line, from the host's end.
--
-- A printer that is sent a receipt doesn't report that it printed it. But it answers a mark once everything before the mark
-- is done. So the host sends a mark after each receipt, its closing mark, and the answer to that mark says that the receipt
-- is on paper, provided that the printer read the receipt as the host meant it. A printer may still hold the half command
-- of an older link, and take the first bytes of a new one for the rest of it. So the host first sends other marks, its
-- opening marks, and no receipt before one of them is answered: a mark that is answered was read at its own place, and from
-- there on the printer reads what the host puts. The Init before each receipt resets styles that an older receipt left.
--
-- Marks are counted on, and no number is ever used again; but there are only 1,679,616 ids, which come round. A printer does
-- everything in order: once a mark is answered, no answer to an earlier one can come any more. So the host keeps in `heard` the
-- number after the last mark whose answer it heard, and puts out no mark that is 1,679,616 or more from there: all marks that may
-- still be answered then have ids of their own, and an answer shows which of them it answers, however late it comes.
--
-- What was put before a mark on the same link is done as well when the mark is answered: the
-- answer to a closing mark records its receipt, and first all receipts in flight that were submitted before it.
--
--   State     | link_up | nudge   | submit  | ask     | answer to a mark
--   Down      | Opening | refused | refused | refused | nothing is heard
--   Opening   | refused | Opening | refused | refused | to an opening mark of this link: Ready;
--             |         |         |         |         | to the closing mark of a receipt that is left, if no later mark
--             |         |         |         |         | was answered: recorded, and Opening
--   Ready     | refused | refused | Sending | Ready   | ignored
--   Sending   | refused | refused | Sending | refused | to the closing mark of one in flight: recorded, and Ready or Sending
--
-- `link_down`, and a byte that fits no answer, lead to Down. What was in flight is left then, with the ids of its closing
-- marks. Nobody knows yet whether it was printed; but the printer may still print it, and answer its marks on the next link.
-- Such answers come before that of any mark of the newer link. So as long as no opening mark is answered, the answer to the
-- closing mark of a receipt that is left records it, and first those that are left and were submitted before it. Once
-- the link is open none of these answers can come any more. What is left then stays to be taken, until the link is gone: then
-- what is in flight takes its place. A receipt that its caller has taken is left no more, and isn't recorded.
--
-- An answer to any other mark is ignored; but while the host is Opening it is an event, since a mark of an older link may
-- be answered late. Each answer to a mark that isn't ignored, and that may still come, shows how far the printer is, and raises
-- `heard`. A status byte and a block of automatic status are events in every state but Down.
--
-- A host may ask a printer to tell unasked how it is (`ask_reports`): before its first opening mark, and while it is Ready.
-- That request has no number, no answer and no place in the table; what the printer tells are blocks of automatic status.
use Rattle.std.specs.Prelude.{Bool, true, false, ℕ, ◌≡◌, ◌≢◌, ◌⊎◌, ◌+◌, ◌<◌, ◌≤◌, min, List, [], ◌∷◌, ◌++◌, length, drop, map}
use Rattle.escpos_command.specs.declared.command.Command.{Command}
use Rattle.escpos_command.specs.declared.command.Command.TheVariants as kind
use Rattle.escpos_command.specs.Answers.{HalfAnswer}
use Rattle.escpos_command.specs.CommandTable.{row, spell}
use Rattle.escpos_command.specs.Digits.{mark_count}
use Rattle.escpos_host.specs.Counted.{id_of}
use Rattle.escpos_command.specs.Meanings.{all_but_drawer}
use Rattle.escpos_host.specs.declared.host.HostState.{HostState}
use Rattle.escpos_host.specs.declared.host.HostState.TheVariants as state
use Rattle.escpos_host.specs.declared.host.HostError.{HostError}
use Rattle.escpos_host.specs.declared.host.HostError.TheVariants as error

-- A receipt in flight, and the number and the id of its closing mark, which is still to be answered.
pub record InFlight : Type 0 where
  pub receipt : List Command
  pub number : ℕ
  pub mark : List ℕ

abbrev pub closed_by : List Command → ℕ → InFlight
closed_by receipt n = record { receipt = receipt; number = n; mark = id_of n }

-- Where a host stands with its link: there is none; its opening marks are those from this number up to the next one, which
-- isn't used yet; or it is open, with these receipts in flight, the oldest first (Ready if there are none).
pub data Phase : Type 0 where
  Down : Phase
  Opening : ℕ → Phase
  Open : List InFlight → Phase

-- The model of a host: its phase, the bytes to take out, the half answer, the number of the next mark, the number after the last
-- mark whose answer was heard, the receipts that are recorded, and those that are left: they were in flight when the last link
-- that was open was lost, and were neither recorded nor taken since. The oldest comes first.
pub record HostView : Type 0 where
  pub phase : Phase
  pub out : List ℕ
  pub half : List ℕ
  pub next : ℕ
  pub heard : ℕ
  pub records : List (List Command)
  pub left : List InFlight

abbrev pub state_of : Phase → HostState
state_of Down = state.Down
state_of (Opening first) = state.Opening
state_of (Open []) = state.Ready
state_of (Open (p ∷ ps)) = state.Sending

-- The most receipts that may be in flight.
abbrev pub most_in_flight : ℕ
most_in_flight = 4

-- The next mark, as a command.
abbrev pub next_mark : HostView → Command
next_mark h = kind.Mark (id_of h.next)

-- The request for automatic status: of each change but the drawer's. (Reference: GS a.)
abbrev pub ask_reports : Command
ask_reports = kind.AutomaticStatus all_but_drawer

-- The link is up: one opening mark is put out.
abbrev pub linked : HostView → HostView
linked h = record { phase = Opening h.next; out = row (next_mark h); half = []; next = h.next + 1; heard = h.heard; records = h.records; left = h.left }

-- The same, where a request for automatic status is put out before the mark.
abbrev pub linked_reporting : HostView → HostView
linked_reporting h =
    record { phase = Opening h.next; out = row ask_reports ++ row (next_mark h); half = []; next = h.next + 1; heard = h.heard; records = h.records; left = h.left }

abbrev pub linked_by : Bool → HostView → HostView
linked_by true h = linked_reporting h
linked_by false h = linked h

-- One more opening mark is put out.
abbrev pub nudged : HostView → HostView
nudged h = record { phase = h.phase; out = h.out ++ row (next_mark h); half = h.half; next = h.next + 1; heard = h.heard; records = h.records; left = h.left }

-- A status request is put out.
abbrev pub asked : HostView → ℕ → HostView
asked h n = record { phase = h.phase; out = h.out ++ row (kind.Status n); half = h.half; next = h.next; heard = h.heard; records = h.records; left = h.left }

-- A request for automatic status is put out.
abbrev pub reports_asked : HostView → HostView
reports_asked h = record { phase = h.phase; out = h.out ++ row ask_reports; half = h.half; next = h.next; heard = h.heard; records = h.records; left = h.left }

-- A receipt is put out, after Init and before its closing mark, and is in flight.
abbrev pub submitted : HostView → List InFlight → List Command → HostView
submitted h flight receipt = record {
  phase = Open (flight ++ closed_by receipt h.next ∷ []);
  out = h.out ++ spell (kind.Init ∷ (receipt ++ next_mark h ∷ []));
  half = h.half;
  next = h.next + 1;
  heard = h.heard;
  records = h.records;
  left = h.left;
}

-- The receipts themselves.
abbrev pub receipts_of : List InFlight → List (List Command)
receipts_of flight = map (λ (p : InFlight). p.receipt) flight

-- The receipts that are in flight.
abbrev pub in_flight : Phase → List (List Command)
in_flight (Open flight) = receipts_of flight
in_flight _ = []

-- The receipts whose closing marks may still be answered, the oldest first: on an open link those that are in flight, and
-- otherwise those that are left.
abbrev pub unanswered : Phase → List InFlight → List InFlight
unanswered (Open flight) left = flight
unanswered _ left = left

-- The link is gone: nothing is to be taken out, there is no half answer, and what may still be answered is left.
abbrev pub gone_down : HostView → HostView
gone_down h = record { phase = Down; out = []; half = []; next = h.next; heard = h.heard; records = h.records; left = unanswered h.phase h.left }

-- The first bytes are taken out.
abbrev pub taken_out : HostView → ℕ → HostView
taken_out h count = record { phase = h.phase; out = drop count h.out; half = h.half; next = h.next; heard = h.heard; records = h.records; left = h.left }

-- The first of the receipts that are left is returned to the caller.
abbrev pub handed_out : HostView → HostView
handed_out h = record { phase = h.phase; out = h.out; half = h.half; next = h.next; heard = h.heard; records = h.records; left = drop 1 h.left }

-- Other receipts are left.
abbrev pub with_left : HostView → List InFlight → HostView
with_left h left = record { phase = h.phase; out = h.out; half = h.half; next = h.next; heard = h.heard; records = h.records; left = left }

-- What holds for every host.
pub record IsSound (h : HostView) : Type 0 where
  pub quiet : h.phase ≡ Down → (h.out ≡ []) × (h.half ≡ [])
  pub few : length (in_flight h.phase) ≤ most_in_flight
  pub few_left : length h.left ≤ most_in_flight
  pub half : (h.half ≡ []) ⊎ HalfAnswer h.half

-- The numbers of marks are below this one.
abbrev pub number_limit : ℕ
number_limit = 4294967295

-- The numbers of the marks that a host may put out are below this one: no two marks that may still be answered have one id.
abbrev pub limit_from : ℕ → ℕ
limit_from heard = min (heard + mark_count) number_limit

abbrev pub mark_limit : HostView → ℕ
mark_limit h = limit_from h.heard

abbrev pub HasMark : HostView → Type 0
HasMark h = h.next < mark_limit h

-- Why a call is refused. The first reason that applies counts.
abbrev pub RefusesLinkUp : HostError → HostView → Type 0
RefusesLinkUp error.AlreadyUp h = h.phase ≢ Down
RefusesLinkUp error.MarksUsedUp h = (h.phase ≡ Down) × (mark_limit h ≤ h.next)
RefusesLinkUp error.Memory h = (h.phase ≡ Down) × HasMark h
RefusesLinkUp _ h = ⊥

abbrev pub IsOpening : Phase → Type 0
IsOpening (Opening first) = Unit {0}
IsOpening _ = ⊥

abbrev pub RefusesNudge : HostError → HostView → Type 0
RefusesNudge error.NotReady h = IsOpening h.phase → ⊥
RefusesNudge error.MarksUsedUp h = IsOpening h.phase × (mark_limit h ≤ h.next)
RefusesNudge error.Memory h = IsOpening h.phase × HasMark h
RefusesNudge _ h = ⊥

abbrev pub RefusesAsk : HostError → HostView → Type 0
RefusesAsk error.NotReady h = h.phase ≢ Open []
RefusesAsk error.Memory h = h.phase ≡ Open []
RefusesAsk _ h = ⊥

abbrev pub RefusesSubmit : HostError → HostView → Type 0
RefusesSubmit error.NotReady h = (flight : List InFlight) → h.phase ≢ Open flight
RefusesSubmit error.InFlightFull h = (flight : List InFlight) × (h.phase ≡ Open flight) × (length flight ≡ most_in_flight)
RefusesSubmit error.MarksUsedUp h = (flight : List InFlight) × (h.phase ≡ Open flight) × (length flight < most_in_flight) × (mark_limit h ≤ h.next)
RefusesSubmit error.Memory h = (flight : List InFlight) × (h.phase ≡ Open flight) × (length flight < most_in_flight) × HasMark h
RefusesSubmit _ h = ⊥

abbrev pub error_number : HostError → ℕ
error_number error.NotReady = 1
error_number error.MarksUsedUp = 2
error_number error.AlreadyUp = 3
error_number error.Memory = 4
error_number error.InFlightFull = 6
