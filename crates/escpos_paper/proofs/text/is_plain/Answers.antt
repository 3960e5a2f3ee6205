-- The table is held against the definition at each of the 256 bytes, by computing.
use Rattle.std.proofs.Common.{ℕ, zero, suc, ◌<◌, ◌&&◌, Bool, true, false, not, List, slice_index_or, ◌≡◌, inl, inr, refl, sym, arith}
use Rattle.std.proofs.lemmas.Bool.{and_parts, cases_eq}
use Rattle.escpos_paper.specs.ItemsText.{is_plain}
use Rattle.escpos_paper.specs.declared.text.TheConstants.{PLAIN}
use Rattle.escpos_paper.proofs.text.is_plain.Goals as goal

same : Bool → Bool → Bool
same true b = b
same false b = not b

same_is : (a b : Bool) → same a b ≡ true → a ≡ b
unfolding same
same_is true true e = refl
same_is true false e = sym e
same_is false true e = e
same_is false false e = refl

-- the table has what is true of all bytes below n
is_right : List Bool → (ℕ → Bool) → ℕ → Bool
is_right table f zero = true
is_right table f (suc n) = same (slice_index_or table n false) (f n) && is_right table f n

right_at : (table : List Bool) (f : ℕ → Bool) (n b : ℕ) → is_right table f n ≡ true → b < n → slice_index_or table b false ≡ f b
unfolding is_right
right_at table f zero b right below = absurd (omega arith)
right_at table f (suc n) b right below =
    let parts = and_parts (same (slice_index_or table n false) (f n)) (is_right table f n) right in
    elim (cases_eq b n) [ inl is ↦ rw is (same_is (slice_index_or table n false) (f n) parts.0) | inr other ↦ right_at table f n b parts.1 (omega arith) ]

pub returns : goal.returns
unfolding is_right same
returns c = right_at PLAIN is_plain 256 c.args.byte refl (omega arith)
