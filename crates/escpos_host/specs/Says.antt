-- What a host has put on one link.
use Rattle.std.specs.Prelude.{ℕ, ◌≡◌, ◌⊎◌, ◌+◌, IsTrue, zero, suc, List, [], ◌∷◌, ◌++◌}
use Rattle.std.specs.List.{flat_map, AllByRecursion}
use Rattle.escpos_command.specs.declared.command.Command.{Command}
use Rattle.escpos_command.specs.declared.command.Command.TheVariants as kind
use Rattle.escpos_host.specs.Counted.{id_of}
use Rattle.escpos_command.specs.Parameters.{is_status_kind}
use Rattle.escpos_command.specs.CommandTable.{spell}
use Rattle.escpos_receipt.specs.Whole.{Whole}
use Rattle.escpos_host.specs.Machine.{HostView, InFlight, Phase, Down, Opening, Open, ask_reports}

-- This many marks, from this number on.
abbrev pub marks_from : ℕ → ℕ → List Command
marks_from zero first = []
marks_from (suc count) first = kind.Mark (id_of first) ∷ marks_from count (first + 1)

-- A receipt with Init before it and its closing mark after it.
abbrev pub framed : InFlight → List Command
framed p = kind.Init ∷ (p.receipt ++ kind.Mark p.mark ∷ [])

-- A status request, a request for automatic status, or a receipt.
pub data Part : Type 0 where
  Asked : ℕ → Part
  AskedReports : Part
  Sent : InFlight → Part

abbrev pub said_by : Part → List Command
said_by (Asked n) = kind.Status n ∷ []
said_by AskedReports = ask_reports ∷ []
said_by (Sent p) = framed p

-- What was sent is a receipt, and its closing mark has the id of its number.
abbrev pub IsSent : InFlight → Type 0
IsSent p = Whole p.receipt × (p.mark ≡ id_of p.number)

abbrev pub IsPart : Part → Type 0
IsPart (Asked n) = IsTrue (is_status_kind n)
IsPart AskedReports = Unit {0}
IsPart (Sent p) = IsSent p

-- What a link begins with: so many marks, from this number on, and perhaps a request for automatic status before them.
abbrev pub IsBeginning : ℕ → ℕ → List Command → Type 0
IsBeginning count first said = (said ≡ marks_from count first) ⊎ (said ≡ ask_reports ∷ marks_from count first)

-- What a host in this phase has said, where its next mark has this number: its opening marks, one or more; once one of them
-- is answered, requests and receipts after them; and last the receipts that are in flight, the oldest first.
abbrev pub SaysIn : Phase → ℕ → List Command → Type 0
SaysIn Down next said = ⊥
SaysIn (Opening first) next said =
    (count : ℕ) × (next ≡ first + suc count) × IsBeginning (suc count) first said
SaysIn (Open flight) next said =
    (first : ℕ) × (count : ℕ) × (opening : List Command) × (parts : List Part) × IsBeginning (suc count) first opening
    × AllByRecursion IsPart parts × AllByRecursion IsSent flight × (said ≡ opening ++ flat_map said_by parts ++ flat_map framed flight)

abbrev pub Says : HostView → List Command → Type 0
Says h said = SaysIn h.phase h.next said

-- A status request is the only real-time command that a host puts.
abbrev pub IsRequest : Command → Type 0
IsRequest (kind.Status n) = Unit {0}
IsRequest _ = ⊥

abbrev pub HasNoRequest : List Command → Type 0
HasNoRequest said = AllByRecursion (λ c. IsRequest c → ⊥) said

-- The host has said this on its link, and of its bytes these were taken out; the others are still to be taken out.
pub record Talks (h : HostView) (out : List ℕ) (said : List Command) : Type 0 where
  pub says : Says h said
  pub whole : spell said ≡ out ++ h.out
