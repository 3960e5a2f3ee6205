-- What a call of `send_link` does. It speaks of all bytes of answers that were read and of all bytes that were written; the
-- code reads pieces, and writes what its host has to say.
--
-- A call goes through three stages. First it waits for an answer to one of its opening marks, when it has written nothing
-- but these marks (`Unopened`). Such an answer ends in some piece of answers, all of which is heard before the receipt is
-- put out (`Opened`). Then it waits for the answer to the receipt's closing mark (`Unclosed`), until that is read
-- (`Closed`). The result of a call says how far it went.
use Rattle.std.specs.Prelude.{ℕ, ◌≡◌, ◌≢◌, ◌+◌, ◌<◌, ◌≤◌, ◌⊎◌, List, [], ◌∷◌, ◌++◌, length}
use Rattle.std.specs.List.{AllByRecursion}
use Rattle.escpos_command.specs.declared.answer.Answer.{Answer}
use Rattle.escpos_command.specs.declared.answer.Answer.TheVariants as answer
use Rattle.escpos_command.specs.declared.command.Command.{Command}
use Rattle.escpos_command.specs.Answers.{Hears, ViableAnswer}
use Rattle.escpos_command.specs.CommandTable.{spell}
use Rattle.escpos_host.specs.Counted.{id_of}
use Rattle.escpos_host.specs.declared.host.HostError.{HostError}
use Rattle.escpos_host.specs.declared.host.HostError.TheVariants as error
use Rattle.escpos_host.specs.declared.send.SendFault.{SendFault}
use Rattle.escpos_host.specs.declared.send.SendFault.TheVariants as fault
use Rattle.escpos_host.specs.declared.send.Sent.{Sent}
use Rattle.escpos_host.specs.declared.send.Sent.TheVariants as became
use Rattle.escpos_host.specs.Heard.{IsMarkFrom}
use Rattle.escpos_host.specs.Machine.{HostView, Down, HasMark, Open, closed_by, mark_limit, number_limit}
use Rattle.escpos_host.specs.Says.{marks_from, framed}

-- A call: the host as it was, the receipt, the number of opening marks, and how many bytes of answers may be read.
pub record Call : Type 0 where
  pub before : HostView
  pub receipt : List Command
  pub openings : ℕ
  pub most : ℕ

-- The most bytes that a piece of answers has.
abbrev pub most_in_piece : ℕ
most_in_piece = 64

-- The id of the receipt's closing mark, the mark after the opening marks.
abbrev pub closing : Call → List ℕ
closing c = id_of (c.before.next + c.openings)

-- The bytes of the opening marks, and those of the receipt with Init before it and its closing mark after it.
abbrev pub opening_bytes : Call → List ℕ
opening_bytes c = spell (marks_from c.openings c.before.next)

abbrev pub receipt_bytes : Call → List ℕ
receipt_bytes c = spell (framed (closed_by c.receipt (c.before.next + c.openings)))

-- ## How far a call went, after these bytes of answers, the last of which may be a half answer

abbrev pub IsToOpening : Call → Answer → Type 0
IsToOpening c (answer.Status b) = ⊥
IsToOpening c (answer.Condition block) = ⊥
IsToOpening c (answer.Mark id) = IsMarkFrom c.before.next (c.before.next + c.openings) id

abbrev pub IsToClosing : Call → Answer → Type 0
IsToClosing c (answer.Status b) = ⊥
IsToClosing c (answer.Condition block) = ⊥
IsToClosing c (answer.Mark id) = closing c ≡ id

-- None of the answers is to an opening mark.
pub record Unopened (c : Call) (bytes half : List ℕ) : Type 0 where
  pub answers : List Answer
  pub hears : Hears bytes answers half
  pub each : AllByRecursion (λ a. IsToOpening c a → ⊥) answers

-- The first answer to an opening mark ends with `front`; fewer bytes than a piece come after it.
pub record Opened (c : Call) (bytes half : List ℕ) : Type 0 where
  pub front : List ℕ
  pub rest : List ℕ
  pub whole : bytes ≡ front ++ rest
  pub others : List Answer
  pub first : Answer
  pub hears : Hears front (others ++ first ∷ []) []
  pub each : AllByRecursion (λ a. IsToOpening c a → ⊥) others
  pub opening : IsToOpening c first
  pub following : List Answer
  pub hears_rest : Hears rest following half
  pub short : length rest < most_in_piece

-- The receipt was put out when the bytes `early` were read, and none of the answers that end after them is to its closing
-- mark.
pub record Unclosed (c : Call) (bytes half : List ℕ) : Type 0 where
  pub early : List ℕ
  pub early_half : List ℕ
  pub later : List ℕ
  pub whole : bytes ≡ early ++ later
  pub opened : Opened c early early_half
  pub answers : List Answer
  pub hears : Hears (early_half ++ later) answers half
  pub each : AllByRecursion (λ a. IsToClosing c a → ⊥) answers

-- The first answer to the closing mark that ends after `early` ends with `later`; fewer bytes than a piece come after it,
-- and are dropped.
pub record Closed (c : Call) (bytes : List ℕ) : Type 0 where
  pub early : List ℕ
  pub early_half : List ℕ
  pub later : List ℕ
  pub dropped : List ℕ
  pub whole : bytes ≡ (early ++ later) ++ dropped
  pub opened : Opened c early early_half
  pub others : List Answer
  pub last : Answer
  pub hears : Hears (early_half ++ later) (others ++ last ∷ []) []
  pub each : AllByRecursion (λ a. IsToClosing c a → ⊥) others
  pub closing : IsToClosing c last
  pub short : length dropped < most_in_piece

-- ## The results

-- The opening marks may be put out, and this many marks from the next one on have numbers.
abbrev pub HasMarks : Call → ℕ → Type 0
HasMarks c used = (c.before.next + c.openings ≤ mark_limit c.before) × (c.before.next + used ≤ number_limit)

-- The link is given up, this many marks were used, and the marks below a number were answered. What an older link left is dropped,
-- unless not all of the opening marks could be put out.
abbrev pub given_up : Call → ℕ → ℕ → HostView
given_up c used heard = record { phase = Down; out = []; half = []; next = c.before.next + used; heard = heard; records = c.before.records; left = [] }

abbrev pub not_dialled : Call → ℕ → HostView
not_dialled c used = record { phase = Down; out = []; half = []; next = c.before.next + used; heard = c.before.heard; records = c.before.records; left = c.before.left }

-- The receipt is the last record, and the link stays open.
abbrev pub recorded_by : Call → HostView
recorded_by c = record {
  phase = Open [];
  out = [];
  half = [];
  next = c.before.next + c.openings + 1;
  heard = c.before.next + c.openings + 1;
  records = c.before.records ++ c.receipt ∷ [];
  left = [];
}

-- Nothing was read, nothing was written.
abbrev pub Nothing : List ℕ → List ℕ → Type 0
Nothing bytes out = (bytes ≡ []) × (out ≡ [])

-- Some of these bytes went out, from the first on, and not all.
abbrev pub IsCut : List ℕ → List ℕ → Type 0
IsCut bytes out = (missing : List ℕ) × (missing ≢ []) × (bytes ≡ out ++ missing)

-- All that there was to say was said, and the answer that is waited for hasn't come.
abbrev pub Waits : Call → List ℕ → List ℕ → List ℕ → ℕ → Type 0
Waits c bytes half out used =
    (Unopened c bytes half × (out ≡ opening_bytes c) × (used ≡ c.openings))
    ⊎ (Unclosed c bytes half × (out ≡ opening_bytes c ++ receipt_bytes c) × (used ≡ c.openings + 1))

-- The receipt is still to be put out.
abbrev pub IsDue : Call → List ℕ → List ℕ → List ℕ → ℕ → Type 0
IsDue c bytes half out used = Opened c bytes half × (out ≡ opening_bytes c) × (used ≡ c.openings)

-- A byte that fits no answer comes after bytes that do; fewer bytes than a piece come after it.
pub record IsBad (c : Call) (bytes out : List ℕ) (used : ℕ) : Type 0 where
  pub good : List ℕ
  pub half : List ℕ
  pub byte : ℕ
  pub tail : List ℕ
  pub whole : bytes ≡ good ++ byte ∷ tail
  pub misfit : ViableAnswer (half ++ byte ∷ []) → ⊥
  pub short : length tail < most_in_piece
  pub stage : Waits c good half out used ⊎ IsDue c good half out used

-- The writer failed in the middle of the opening marks, or of the receipt.
abbrev pub Breaks : Call → List ℕ → List ℕ → ℕ → Type 0
Breaks c bytes out used =
    ((bytes ≡ []) × IsCut (opening_bytes c) out × (used ≡ c.openings))
    ⊎ ((half : List ℕ) × (some : List ℕ) × Opened c bytes half × (out ≡ opening_bytes c ++ some) × IsCut (receipt_bytes c) some × (used ≡ c.openings + 1))

-- Why the host refused a call: to open the link, to put one more opening mark out, or to take the receipt. By then the answer to an
-- opening mark may have freed numbers.
abbrev pub RefusesSend : Call → HostError → List ℕ → List ℕ → HostView → Type 0
RefusesSend c error.AlreadyUp bytes out after = (c.before.phase ≢ Down) × Nothing bytes out × (after ≡ c.before)
RefusesSend c error.MarksUsedUp bytes out after =
    (c.before.phase ≡ Down)
    × (((mark_limit c.before ≤ c.before.next) × Nothing bytes out × (after ≡ c.before))
    ⊎ ((used : ℕ) × (0 < used) × (used < c.openings) × (c.before.next + used ≡ mark_limit c.before) × Nothing bytes out × (after ≡ not_dialled c used))
    ⊎ ((half : List ℕ) × (mark_limit after ≤ c.before.next + c.openings) × IsDue c bytes half out c.openings × (after ≡ given_up c c.openings after.heard)))
RefusesSend c error.Memory bytes out after =
    (c.before.phase ≡ Down) × HasMark c.before
    × ((Nothing bytes out × (after ≡ c.before))
    ⊎ ((used : ℕ) × (0 < used) × (used < c.openings) × (c.before.next + used < mark_limit c.before) × Nothing bytes out × (after ≡ not_dialled c used))
    ⊎ ((half : List ℕ) × (c.before.next + c.openings < mark_limit after) × IsDue c bytes half out c.openings × (after ≡ given_up c c.openings after.heard)))
RefusesSend c _ bytes out after = ⊥

-- A read found no further answer, although more bytes may be read.
abbrev pub FindsNone : Call → List ℕ → List ℕ → HostView → Type 0
FindsNone c bytes out after =
    (half : List ℕ) × (used : ℕ) × Waits c bytes half out used × (length bytes < c.most) × HasMarks c used × (after ≡ given_up c used after.heard)

-- The writer failed before all was said.
abbrev pub CantPut : Call → List ℕ → List ℕ → HostView → Type 0
CantPut c bytes out after = (used : ℕ) × Breaks c bytes out used × HasMarks c used × (after ≡ given_up c used after.heard)

-- Which bytes were read and written if the receipt isn't recorded, and how the host is left. The end of the answers and the
-- reader's failure are found only by a read, and there is no read once as many bytes were read as may be. A time-out is a
-- failure of the reader or of the writer.
abbrev pub Fails : Call → SendFault → List ℕ → List ℕ → HostView → Type 0
Fails c fault.Ended bytes out after = FindsNone c bytes out after
Fails c fault.ReadFault bytes out after = FindsNone c bytes out after
Fails c fault.TooLong bytes out after =
    (half : List ℕ) × (used : ℕ) × Waits c bytes half out used × (length bytes ≡ c.most) × HasMarks c used × (after ≡ given_up c used after.heard)
Fails c fault.WriteFault bytes out after = CantPut c bytes out after
Fails c fault.TimedOut bytes out after = FindsNone c bytes out after ⊎ CantPut c bytes out after
Fails c fault.BadAnswer bytes out after = (used : ℕ) × IsBad c bytes out used × HasMarks c used × (after ≡ given_up c used after.heard)
Fails c (fault.Refused why) bytes out after = RefusesSend c why bytes out after

-- What a call does, with these bytes read and these written.
abbrev pub Sends : Call → List ℕ → List ℕ → Sent → HostView → Type 0
Sends c bytes out (became.Recorded number) after =
    (c.before.phase ≡ Down) × HasMarks c (c.openings + 1) × Closed c bytes × (out ≡ opening_bytes c ++ receipt_bytes c) × (number ≡ length c.before.records)
    × (after ≡ recorded_by c)
Sends c bytes out (became.NotRecorded why receipt) after = (receipt ≡ c.receipt) × Fails c why bytes out after

-- The receipt isn't recorded for this reason.
abbrev pub Why : Sent → SendFault → Type 0
Why (became.Recorded number) why = ⊥
Why (became.NotRecorded other receipt) why = other ≡ why
