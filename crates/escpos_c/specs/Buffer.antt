-- What becomes of the caller's buffer.
use Rattle.std.specs.Prelude.{ℕ, ℤ, pos, ◌≡◌, ◌⊎◌, ◌<◌, ◌≤◌, List, ◌++◌, length, drop}
use Rattle.escpos_c.specs.declared.call_status.CallStatus.{CallStatus}
use Rattle.escpos_c.specs.declared.call_status.CallStatus.TheVariants.{Short}

-- The buffer begins with the text now, its other bytes are as they were, and the caller is told the text's length.
pub record Fills (before after : List ℕ) (written : ℕ) (text : List ℕ) : Type 0 where
  pub fits : length text ≤ length before
  pub count : written ≡ length text
  pub copied : after ≡ text ++ drop (length text) before

-- The buffer is too short for the text and is as it was, and the caller is told the text's length.
pub record TooShort (before after : List ℕ) (written : ℕ) (text : List ℕ) : Type 0 where
  pub short : length before < length text
  pub count : written ≡ length text
  pub same : after ≡ before

-- The text was copied and the status is the one that is wanted, or the buffer is too short.
abbrev pub Given : CallStatus → List ℕ → CallStatus → List ℕ → List ℕ → ℕ → Type 0
Given wanted text status before after written =
    ((status ≡ wanted) × Fills before after written text) ⊎ ((status ≡ Short) × TooShort before after written text)

-- The call is refused, and nothing is written: the status is 1, the length 0, and the buffer is as it was.
abbrev pub GivesNone : ℤ → List ℕ → List ℕ → ℕ → Type 0
GivesNone status before after written = (status ≡ pos 1) × (written ≡ 0) × (after ≡ before)
