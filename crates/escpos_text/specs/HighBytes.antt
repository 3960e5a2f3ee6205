-- For private clauses and proofs: the lowest byte from 80 on that reads as a character.
use Rattle.std.specs.Prelude.{◌≡◌, ◌≢◌, ℕ, ◌<◌, ◌≤◌, Option, Some, MatchOption}
use Rattle.escpos_text.specs.Reading.{reads_high}

abbrev pub IsLowestHigh : ℕ → ℕ → Option ℕ → Type 0
IsLowestHigh table c found =
    MatchOption found
    ((b : ℕ) → 0x80 ≤ b → reads_high table b ≢ Some c)
    (λ b. (0x80 ≤ b) × (b < 256) × (reads_high table b ≡ Some c) × ((k : ℕ) → 0x80 ≤ k → k < b → reads_high table k ≢ Some c))
