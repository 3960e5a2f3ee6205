-- What a till's entries and its host have to do with each other, so that what is recorded stands on the paper. For private clauses and
-- proofs alone.
use Rattle.std.specs.Prelude.{ℕ, ◌≡◌, ◌⊎◌, ◌≤◌, List, [], ◌∷◌, ◌++◌, Option, Some, None}
use Rattle.escpos_command.specs.declared.command.Command.{Command}
use Rattle.escpos_host.specs.Machine.{Down, HostView, Open, Opening, Phase, in_flight, limit_from}
use Rattle.escpos_link.specs.Ways.{Rising}
use Rattle.escpos_till.specs.declared.entry.Entry.{Entry}
use Rattle.escpos_till.specs.declared.entry.Entry.TheVariants as entry
use Rattle.escpos_till.specs.Entries.{IsLedger, heard, next_free}
use Rattle.escpos_till_model.specs.Late.{IsHeardBy}
use Rattle.escpos_till_model.specs.Receipts.{AreReceipts, IsReceiptOf}

-- A receipt that is being sent: it is kept that it is tried, and not that it is recorded. What is sent of it is here until the host has it;
-- the mark numbers from the host's next one up to the limit are reserved for it.
pub record Hand : Type 0 where
  pub number : ℕ
  pub receipt : Option (List Command)
  pub limit : ℕ

-- An entry has reserved the numbers from this one up to the limit for the receipt with this number. Each of them was free
-- before that entry, and none of them has the id of a mark that could still be answered then.
pub record Reserves (entries : List Entry) (number mark limit : ℕ) : Type 0 where
  pub before : List Entry
  pub following : List Entry
  pub entries_are : entries ≡ before ++ entry.Tried number limit ∷ following
  pub from : next_free before ≤ mark
  pub to : mark ≤ limit
  pub few : limit ≤ limit_from (heard before)

-- These were sent of the receipt in hand, with this number: nothing while the till has its commands; after that the
-- commands, once, unless the link was lost.
abbrev pub IsSent : List Entry → ℕ → Option (List Command) → List (List Command) → Type 0
IsSent entries number (Some commands) sent = IsReceiptOf entries number commands × (sent ≡ [])
IsSent entries number None sent = (commands : List Command) × IsReceiptOf entries number commands × ((sent ≡ []) ⊎ (sent ≡ commands ∷ []))

-- The receipt in hand, where these of it were answered and aren't recorded in the ledger.
pub record HasInHand (entries : List Entry) (hand : Hand) (answered : List (List Command)) (h : HostView) : Type 0 where
  pub reserved : Reserves entries hand.number h.next hand.limit
  pub below : hand.limit ≤ next_free entries
  pub sent : IsSent entries hand.number hand.receipt (answered ++ in_flight h.phase)

abbrev pub IsInHand : List Entry → Option Hand → List (List Command) → HostView → Type 0
IsInHand entries None answered h = h.phase ≡ Down
IsInHand entries (Some hand) answered h = HasInHand entries hand answered h

-- What a host has heard is below its own marks that aren't answered yet, and no higher than its next one.
abbrev pub IsSince : Phase → ℕ → ℕ → Type 0
IsSince Down heard next = heard ≤ next
IsSince (Opening first) heard next = (heard ≤ first) × (first ≤ next)
IsSince (Open flight) heard next = Rising heard flight next

-- The host's records are the receipts of what is recorded, and then those that are answered and aren't recorded yet. Its next
-- mark number is no higher than the first that is free. What the entries say of marks that can't be answered is so.
pub record Keeps (entries : List Entry) (hand : Option Hand) (h : HostView) : Type 0 where
  pub ledger : IsLedger entries
  pub receipts : List (List Command)
  pub are : AreReceipts entries receipts
  pub answered : List (List Command)
  pub records : h.records ≡ receipts ++ answered
  pub next : h.next ≤ next_free entries
  pub in_hand : IsInHand entries hand answered h
  pub knows : IsHeardBy entries h
  pub most : heard entries ≤ next_free entries
  pub since : IsSince h.phase h.heard h.next
