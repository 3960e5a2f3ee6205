-- For private clauses and proofs: where the code has the table of a number.
use Rattle.std.specs.Prelude.{◌≡◌, ℕ, ◌<◌, slice_index}
use Rattle.escpos_text.specs.declared.tables.TheConstants.{PLACES}

abbrev pub IsPlaceOf : ℕ → ℕ → Type 0
IsPlaceOf place number = (number < 54) × (place < 32) × (slice_index PLACES number ≡ place)
