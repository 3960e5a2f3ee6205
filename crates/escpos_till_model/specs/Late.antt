-- What answers that come late prove, of the tries in a ledger.
--
-- A ledger knows the number of the mark that closes each try. So an answer to that mark, on whatever link it comes, shows that the receipt
-- is on the paper, and it need not be sent again.
use Rattle.std.specs.Prelude.{ℕ, ◌≡◌, ◌⊎◌, ◌≤◌, List, []}
use Rattle.escpos_command.specs.declared.command.Command.{Command}
use Rattle.escpos_host.specs.Machine.{HostView, Opening, closed_by}
use Rattle.escpos_link.specs.Line.{LineView}
use Rattle.escpos_link.specs.Promised.{Promised}
use Rattle.escpos_till.specs.declared.entry.Entry.{Entry}
use Rattle.escpos_till.specs.Entries.{Waits, heard}
use Rattle.escpos_till.specs.Tries.{HasTry, tries}
use Rattle.escpos_till_model.specs.Receipts.{IsReceiptOf}

-- Of the receipts that wait none but the first was tried.
abbrev pub FirstIsTried : List Entry → Type 0
FirstIsTried entries = (number closing : ℕ) → Waits entries number → HasTry (tries entries) number closing → (k : ℕ) → Waits entries k → number ≤ k

-- No mark with a number below the one of which the entries say so can be answered any more: this host knows it; or all of its marks are answered,
-- and it has used no number from there on.
abbrev pub IsHeardBy : List Entry → HostView → Type 0
IsHeardBy entries h = (heard entries ≤ h.heard) ⊎ ((h.next ≤ h.heard) × (h.next ≤ heard entries))

-- If the closing mark of a try of a receipt that waits is answered, as it may be from the number on that the entries say, then the receipt stands on
-- the paper, after these.
abbrev pub TriesPromise : List Entry → List (List Command) → LineView → Type 0
TriesPromise entries records l =
    (number closing : ℕ) → Waits entries number → HasTry (tries entries) number closing → heard entries ≤ closing
    → (receipt : List Command) × IsReceiptOf entries number receipt × Promised records (closed_by receipt closing) l

-- Both, where these are the receipts that are recorded.
pub record LateAnswers (entries : List Entry) (records : List (List Command)) (l : LineView) : Type 0 where
  pub first : FirstIsTried entries
  pub promise : TriesPromise entries records l

-- A host that is opening its first link has recorded nothing, and nothing of it is left.
abbrev pub HasJustBegun : HostView → Type 0
HasJustBegun h = (first : ℕ) → h.phase ≡ Opening first → (h.records ≡ []) × (h.left ≡ [])
