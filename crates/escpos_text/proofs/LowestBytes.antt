-- Which byte reads as a character.
use Rattle.std.proofs.Common.{◌≡◌, ℕ, ◌<◌, ◌≤◌, Bool, true, get_or, refl, sym, ap, subst, ◌∙◌, arith, eqb-true, eq-eqb, lt-ltb, le-ltb, Option, Some, None, inl, inr}
use Rattle.std.specs.List.{range_with_len}
use Rattle.std.proofs.lemmas.Bool.{cases_lt, cond-true, cond-false, false_from_ne_true}
use Rattle.std.proofs.lemmas.List.FromFn.{get_or-range_with_len, length-range_with_len}
use Rattle.escpos_text.specs.Reading.{reads, reads_low, reads_high, is_some_of, byte_for, IsLowest}
use Rattle.escpos_text.specs.HighBytes.{IsLowestHigh}
use Rattle.escpos_text.proofs.Places.{place_is, place_nowhere}

pub reads-low : (set table b : ℕ) → b < 0x80 → reads set table b ≡ reads_low set b
unfolding reads
reads-low set table b lt = cond-true _ _ _ (lt-ltb b 0x80 lt)

pub reads-high : (set table b : ℕ) → 0x80 ≤ b → reads set table b ≡ reads_high table b
unfolding reads
reads-high set table b le = cond-false _ _ _ (le-ltb b 0x80 le)

-- A byte below 80 is lower than one from 80 on.
pub lowest-low : (set table c b : ℕ) → IsLowest 0x80 (reads_low set) c (Some b) → IsLowest 256 (reads set table) c (Some b)
lowest-low set table c b h = (
  omega (arith, h.0),
  reads-low set table b h.0 ∙ h.1,
  λ k less e. h.2 k less (sym (reads-low set table k (omega (arith, h.0))) ∙ e),
)

pub lowest-high : (set table c : ℕ) (found : Option ℕ) → IsLowest 0x80 (reads_low set) c None → IsLowestHigh table c found → IsLowest 256 (reads set table) c found
lowest-high set table c None low high = λ b lt e.
    elim (cases_lt b 0x80) [
      | inl below ↦ low b below (sym (reads-low set table b below) ∙ e)
      | inr from ↦ high b from (sym (reads-high set table b from) ∙ e)
    ]
lowest-high set table c (Some b) low high = (
  high.1,
  reads-high set table b high.0 ∙ high.2,
  λ k less e.
      elim (cases_lt k 0x80) [
        | inl below ↦ low k below (sym (reads-low set table k below) ∙ e)
        | inr from ↦ high.3 k from less (sym (reads-high set table k from) ∙ e)
      ],
)

pub is_some_of-true : (o : Option ℕ) (c : ℕ) → is_some_of o c ≡ true → o ≡ Some c
is_some_of-true None c h = cc
is_some_of-true (Some d) c h = ap Some (eqb-true d c h)

is_some_of-Some : (o : Option ℕ) (c : ℕ) → o ≡ Some c → is_some_of o c ≡ true
is_some_of-Some o c h = ap (λ x. is_some_of x c) h ∙ eq-eqb c c refl

-- The bytes, one after another.
pub byte_at : (k : ℕ) → k < 256 → get_or (range_with_len 0 256) k 0 ≡ k
byte_at k lt = get_or-range_with_len 0 256 k 0 lt ∙ omega arith

-- The lowest byte is what the definition gives.
pub byte_for-from_lowest : (set table c : ℕ) (found : Option ℕ) → IsLowest 256 (reads set table) c found → found ≡ byte_for set table c
unfolding byte_for
byte_for-from_lowest set table c None h =
    let test : ℕ → Bool = λ b. is_some_of (reads set table b) c in
    sym (place_nowhere test (range_with_len 0 256) (λ k lt.
    let less : k < 256 = subst (λ n. k < n) (length-range_with_len 0 256) lt in
    ap test (byte_at k less) ∙ false_from_ne_true _ (λ t. h k less (is_some_of-true _ c t))))
byte_for-from_lowest set table c (Some b) h =
    let test : ℕ → Bool = λ k. is_some_of (reads set table k) c in
    sym (place_is test (range_with_len 0 256) b (subst (λ n. b < n) (sym (length-range_with_len 0 256)) h.0)
    (λ k less. ap test (byte_at k (omega (arith, h.0))) ∙ false_from_ne_true _ (λ t. h.2 k less (is_some_of-true _ c t)))
    (ap test (byte_at b h.0) ∙ is_some_of-Some _ c h.1))
