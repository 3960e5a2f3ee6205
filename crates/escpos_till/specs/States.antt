-- Which of the receipts of a ledger is the first that waits, by where they stand. For private clauses and proofs alone.
use Rattle.std.specs.Prelude.{ℕ, ◌≡◌, ◌≢◌, ◌<◌, ◌≤◌, Option, Some, None, List, length, slice_get}
use Rattle.escpos_till.specs.declared.state.ReceiptState.{ReceiptState}
use Rattle.escpos_till.specs.declared.state.ReceiptState.TheVariants as state

-- It waits no more.
abbrev pub IsEnded : ReceiptState → Type 0
IsEnded (state.Waiting tried) = ⊥
IsEnded (state.Recorded place) = Unit {0}
IsEnded (state.Cancelled tried) = Unit {0}

abbrev pub tries_in : ReceiptState → Option ℕ
tries_in (state.Waiting tried) = Some tried
tries_in (state.Recorded place) = None
tries_in (state.Cancelled tried) = None

-- Of these states the first from this place on that waits is at that place; past the end if none does.
pub record IsNextWaiting (states : List ReceiptState) (from at : ℕ) : Type 0 where
  pub beyond : from ≤ at
  pub within : at ≤ length states
  pub passed : (k : ℕ) (s : ReceiptState) → from ≤ k → k < at → slice_get states k ≡ Some s → IsEnded s
  pub waits : (s : ReceiptState) → slice_get states at ≡ Some s → IsEnded s → ⊥

-- Of these states but for one, the first that waits is at this place; past the end if none does.
pub record IsFirstBesides (states : List ReceiptState) (skipped at : ℕ) : Type 0 where
  pub other : at < length states → at ≢ skipped
  pub passed : (k : ℕ) (s : ReceiptState) → k < at → k ≢ skipped → slice_get states k ≡ Some s → IsEnded s
  pub waits : (s : ReceiptState) → slice_get states at ≡ Some s → IsEnded s → ⊥

-- Of these states the first that waits is at this place; past the end if none does.
pub record IsFirstWaiting (states : List ReceiptState) (at : ℕ) : Type 0 where
  pub within : at ≤ length states
  pub passed : (k : ℕ) (s : ReceiptState) → k < at → slice_get states k ≡ Some s → IsEnded s
  pub waits : (s : ReceiptState) → slice_get states at ≡ Some s → IsEnded s → ⊥
