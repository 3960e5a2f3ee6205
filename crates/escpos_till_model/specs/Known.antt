-- Why what a till has recorded stands on the paper, whatever happens in the world: what holds of every world. For private clauses and
-- proofs alone.
use Rattle.std.specs.Prelude.{ℕ, ◌≡◌, ◌≢◌, ◌≤◌, ◌<◌, ◌+◌, Option, Some, None, List, [], ◌∷◌, ◌++◌, length}
use Rattle.escpos_command.specs.declared.command.Command.{Command}
use Rattle.escpos_host.specs.Earlier.{with_earlier}
use Rattle.escpos_host.specs.Machine.{HostView, Down, IsSound, Open, limit_from}
use Rattle.escpos_link.specs.Line.{IsLine}
use Rattle.escpos_link.specs.Trusted.{IsTrusted}
use Rattle.escpos_link.specs.Wire.{WireView, line_of}
use Rattle.escpos_till.specs.declared.entry.Content.{Content}
use Rattle.escpos_till.specs.declared.entry.Entry.{Entry}
use Rattle.escpos_till.specs.declared.entry.Entry.TheVariants as entry
use Rattle.escpos_till.specs.declared.stage.Due.{Due}
use Rattle.escpos_till.specs.declared.stage.Stage.{Stage}
use Rattle.escpos_till.specs.declared.stage.Stage.TheVariants as stage
use Rattle.escpos_till.specs.declared.stage.Then.{Then}
use Rattle.escpos_till.specs.declared.stage.Then.TheVariants as then
use Rattle.escpos_till.specs.declared.note.TillNote.{TillNote}
use Rattle.escpos_till.specs.declared.note.TillNote.TheVariants as note
use Rattle.escpos_till.specs.Book.{IsBookOf}
use Rattle.escpos_till.specs.Delivers.{marks_taken}
use Rattle.escpos_till.specs.Entries.{MayFollow, Waits, heard, next_free, recorded, times_tried}
use Rattle.escpos_till.specs.Machine.{MachineView, Suits}
use Rattle.escpos_till_model.specs.Kept.{Hand, Keeps}
use Rattle.escpos_till_model.specs.Late.{HasJustBegun, LateAnswers}
use Rattle.escpos_till_model.specs.Receipts.{Among, IsReceiptOf}
use Rattle.escpos_till_model.specs.World.{IsSendable, IsSo, World}

-- The host at the wire is the machine's; where there is no machine it has no link.
abbrev pub IsHostOf : Option MachineView → HostView → Type 0
IsHostOf None h = h.phase ≡ Down
IsHostOf (Some m) h = h ≡ m.host

-- The store couldn't tell whether it kept an entry. If it did, the machine's book lags behind it by that entry, until a new machine is
-- made.
abbrev pub BookMayLag : Stage → Type 0
BookMayLag (stage.HangingUp (note.NotKept why)) = Unit {0}
BookMayLag (stage.Telling (note.NotKept why)) = Unit {0}
BookMayLag stage.Failed = Unit {0}
BookMayLag s = ⊥

-- The receipt, the first that waits, may be sent with numbers from the next one on.
pub record IsToSend (kept : List Entry) (due : Due) : Type 0 where
  pub receipt : IsReceiptOf kept due.number due.receipt
  pub within : next_free kept + marks_taken due.openings ≤ limit_from (heard kept)
  pub fits : IsSendable due.receipt
  pub follows : MayFollow kept (entry.Tried due.number (next_free kept + marks_taken due.openings))
  pub first : (k : ℕ) → Waits kept k → due.number ≤ k

-- A receipt is answered, and that is to be kept, with what the host has heard.
abbrev pub IsToRecord : List Entry → Option Hand → HostView → Entry → ℕ → Type 0
IsToRecord kept hand h e number =
    (held : Hand) × (hand ≡ Some held) × (held.number ≡ number) × ((hd : ℕ) × (e ≡ entry.Recorded number hd) × (0 < hd) × (hd ≤ h.heard))
    × (length (recorded kept) < length h.records) × (h.phase ≢ Down)

-- The next receipt, the first that waits, may be sent over the host's link, with the next number for its closing mark.
pub record IsToSendNext (kept : List Entry) (h : HostView) (due : Due) (tried : Entry) : Type 0 where
  pub receipt : IsReceiptOf kept due.number due.receipt
  pub fits : IsSendable due.receipt
  pub tried_is : tried ≡ entry.Tried due.number (next_free kept + 1)
  pub follows : MayFollow kept tried
  pub first : (k : ℕ) → Waits kept k → due.number ≤ k
  pub within : next_free kept < limit_from (heard kept)
  pub link : h.phase ≡ Open []
  pub quiet : h.out ≡ []
  pub marks : h.next ≡ next_free kept

-- What an entry that is to be kept is, by what follows it.
abbrev pub IsToKeep : List Entry → Option Hand → HostView → Entry → Then → Type 0
IsToKeep kept hand h e then.Queued = (hand ≡ None) × (content : Content) × (e ≡ entry.Queued content)
IsToKeep kept hand h e (then.Take content) = (hand ≡ None) × Suits (then.Take content) e
IsToKeep kept hand h e then.Raised = (hand ≡ None) × (first : ℕ) × (hd : ℕ) × (e ≡ entry.Raised first hd)
IsToKeep kept hand h e (then.Cancelled number tried) = (hand ≡ None) × (e ≡ entry.Cancelled number) × (times_tried kept number ≡ tried)
IsToKeep kept hand h e (then.Send due) = (hand ≡ None) × IsToSend kept due × (e ≡ entry.Tried due.number (next_free kept + marks_taken due.openings))
IsToKeep kept hand h e (then.Recorded number) = IsToRecord kept hand h e number
IsToKeep kept hand h e (then.GoOn number tried due) =
    IsToRecord kept hand h e number × IsToSendNext (kept ++ e ∷ []) h due tried
IsToKeep kept hand h e (then.SendNext number due) =
    (held : Hand) × (hand ≡ Some held) × (length h.records ≡ length (recorded kept)) × IsToSendNext kept h due e × IsSo kept (note.Recorded number)

-- What a stage has in hand, where the host has these records with those before it.
abbrev pub Holds : List Entry → Option Hand → HostView → Stage → Type 0
Holds kept hand h (stage.Connecting due) = (hand ≡ None) × IsToSend kept due
Holds kept hand h (stage.Keeping e next) = MayFollow kept e × IsToKeep kept hand h e next
Holds kept hand h (stage.Talking talk) =
    (held : Hand) × (hand ≡ Some held) × (held.number ≡ talk.number) × (held.receipt ≡ talk.receipt) × MayFollow kept (entry.Recorded talk.number 0)
    × (length h.records ≡ length (recorded kept)) × (h.phase ≢ Down)
    × ((receipt : List Command) → talk.receipt ≡ Some receipt → (h.next < held.limit) × IsSendable receipt)
    × ((number : ℕ) → talk.recorded ≡ Some number → IsSo kept (note.Recorded number)) × (heard kept ≤ h.heard)
Holds kept hand h (stage.HangingUp n) = (hand ≡ None) × IsSo kept n
Holds kept hand h (stage.Telling n) = (hand ≡ None) × IsSo kept n
Holds kept hand h s = hand ≡ None

abbrev pub IsMachineIn : Option MachineView → List Entry → Option Hand → HostView → Type 0
IsMachineIn None kept hand h = hand ≡ None
IsMachineIn (Some m) kept hand h = ((BookMayLag m.stage → ⊥) → IsBookOf m.book kept) × Holds kept hand h m.stage

-- The entries are those of a till whose host is at this wire; and if a try of a receipt that waits is answered late, the receipt stands then
-- after those that are recorded.
pub record Accounted (kept : List Entry) (hand : Option Hand) (h : HostView) (wire : WireView) : Type 0 where
  pub keeps : Keeps kept hand h
  pub late : LateAnswers kept keeps.receipts (line_of h wire)

-- What holds of every world: with the records of the hosts before, the machine's host and the wire are a line that can be trusted, and
-- the entries are those of a till whose host this is, so that late answers prove what they say; and what its owner was told is so.
pub record IsWorld (w : World) : Type 0 where
  pub earlier : List (List Command)
  pub host : HostView
  pub host_is : IsHostOf w.machine host
  pub sound : IsSound host
  pub line : IsLine (line_of (with_earlier earlier host) w.wire)
  pub trusted : IsTrusted (line_of (with_earlier earlier host) w.wire)
  pub hand : Option Hand
  pub account : Accounted w.kept hand (with_earlier earlier host) w.wire
  pub begun : HasJustBegun host
  pub machine : IsMachineIn w.machine w.kept hand (with_earlier earlier host)
  pub told : (n : TillNote) → Among n w.told → IsSo w.kept n
