-- The bytes of a text's digits, written over the text: what holds at each turn.
use Rattle.std.proofs.Common.{◌≡◌, ◌≤◌, ℕ, List, ◌++◌, length, drop, take, Ok, IsErr}
use Rattle.hex.specs.Hex.{decode_of}
use Rattle.escpos_job_parts.specs.Hexadecimal.{digits_of}

-- Of the text `first`, the digits up to the place `read` are read, and their bytes stand in the first `written` places of `now`, which is
-- the text as it was from the place `read` on.
pub record Kept (first now : List ℕ) (read written : ℕ) : Type 0 where
  pub kept : drop read now ≡ drop read first
  pub whole : length now ≡ length first
  pub room : written ≤ read
  pub inside : read ≤ length now
  pub bytes : (out : List ℕ) → decode_of (digits_of (drop read first)) ≡ Ok out → decode_of (digits_of first) ≡ Ok (take written now ++ out)
  pub refused : IsErr (decode_of (digits_of (drop read first))) → IsErr (decode_of (digits_of first))
