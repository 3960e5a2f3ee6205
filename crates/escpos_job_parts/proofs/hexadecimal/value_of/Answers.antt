-- The table is held against the definition at each of the 256 bytes, by computing.
use Rattle.std.proofs.Common.{ℕ, zero, suc, ◌<◌, ◌==◌, ◌&&◌, Bool, true, List, slice_index, ◌≡◌, inl, inr, refl, arith}
use Rattle.std.proofs.lemmas.Bool.{and_parts, cases_eq, eqb-true}
use Rattle.escpos_job_parts.specs.DigitValues.{value_of}
use Rattle.escpos_job_parts.specs.declared.hexadecimal.TheConstants.{VALUES}
use Rattle.escpos_job_parts.proofs.hexadecimal.value_of.Goals as goal

-- the table has the values of all bytes below n
is_right : List ℕ → (ℕ → ℕ) → ℕ → Bool
is_right table f zero = true
is_right table f (suc n) = (slice_index table n == f n) && is_right table f n

right_at : (table : List ℕ) (f : ℕ → ℕ) (n b : ℕ) → is_right table f n ≡ true → b < n → slice_index table b ≡ f b
unfolding is_right
right_at table f zero b right below = absurd (omega arith)
right_at table f (suc n) b right below =
    let parts = and_parts (slice_index table n == f n) (is_right table f n) right in
    elim (cases_eq b n) [ inl same ↦ rw same (eqb-true (slice_index table n) (f n) parts.0) | inr other ↦ right_at table f n b parts.1 (omega arith) ]

pub returns : goal.returns
unfolding is_right
returns c = right_at VALUES value_of 256 c.args.byte refl (omega arith)
