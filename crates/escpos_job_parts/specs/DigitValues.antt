-- The value of a byte as a hexadecimal digit. Only private clauses and proofs use this definition.
use Rattle.std.specs.Prelude.{ℕ, ◌≡◌, ◌≤◌, ◌+◌, ◌*◌, List, ◌∷◌, if◌then◌else◌}
use Rattle.std.specs.Option.{unwrap_or}
use Rattle.hex.specs.Hex.{hex_digit_value}
use Rattle.escpos_job_parts.specs.Hexadecimal.{is_blank}
use Rattle.escpos_job_parts.specs.declared.hexadecimal.TheConstants.{BLANK, NONE}

-- A digit has 0 to 15; a blank and any other byte have values of their own.
abbrev pub value_of : ℕ → ℕ
value_of b = if is_blank b then BLANK else unwrap_or (hex_digit_value b) NONE

-- The first two of some digits are those of the byte, and these are left.
pub record IsPair (byte : ℕ) (digits rest : List ℕ) : Type 0 where
  pub high : ℕ
  pub low : ℕ
  pub first : digits ≡ high ∷ low ∷ rest
  pub high_is : value_of high ≤ 15
  pub low_is : value_of low ≤ 15
  pub value : byte ≡ value_of high * 16 + value_of low
