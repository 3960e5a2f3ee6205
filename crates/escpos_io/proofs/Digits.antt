-- Bytes as hexadecimal digits, and how many of the digits were given so far.
use Rattle.std.proofs.Common.{◌≡◌, ℕ, List, [], ◌∷◌, ◌++◌, ◌*◌, length, Ok, refl, ap, arith}
use Rattle.std.specs.Prelude.{slice_index, ◌/◌, ◌%◌}
use Rattle.hex.specs.Hex.{encode_with, encode_lower, lower_digits}
use Rattle.hex.proofs.HexLemmas.{length-encode_with}
use Rattle.escpos_io.specs.Gather.{Gathered}
use Rattle.escpos_io.specs.Giving.{IsGiven}
use Rattle.escpos_io.specs.Putting.{Passage}

encode_append : (t xs ys : List ℕ) → encode_with t (xs ++ ys) ≡ encode_with t xs ++ encode_with t ys
unfolding encode_with
encode_append t [] ys = refl
encode_append t (x ∷ xs) ys = ap (λ rest. slice_index t (x / 16) ∷ slice_index t (x % 16) ∷ rest) (encode_append t xs ys)

-- The digits of two lists joined are those of the first followed by those of the second.
pub digits_append : (xs ys : List ℕ) → encode_lower (xs ++ ys) ≡ encode_lower xs ++ encode_lower ys
digits_append xs ys = encode_append lower_digits xs ys

pub no_digits : encode_lower [] ≡ []
unfolding encode_with
no_digits = refl

pub digits_count : (bytes : List ℕ) → length (encode_lower bytes) ≡ 2 * length bytes
digits_count bytes = omega (arith, length-encode_with lower_digits bytes)

-- The gather was given the digits of all these bytes but the rest.
pub record DigitsPut (sink : Passage) (old new : Gathered) (bytes rest : List ℕ) : Type 0 where
  pub done : List ℕ
  pub whole : bytes ≡ done ++ rest
  pub given : IsGiven (Ok tt) sink old new (encode_lower done)
