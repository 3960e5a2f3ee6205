-- Which characters are blanks.
use Rattle.std.proofs.Common.{◌≡◌, ℕ, Bool, true, false, refl}
use Rattle.std.specs.Prelude.{not}
use Rattle.escpos_layout.specs.Wrapping.{is_blank, is_blank_or_not}

-- Whether the test of a character gives what is asked for.
pub of_kind : (blanks : Bool) (c : ℕ) → is_blank c ≡ blanks → is_blank_or_not blanks c ≡ true
of_kind true c h = h
of_kind false c h = go (is_blank c) h where
  go : (b : Bool) → b ≡ false → not b ≡ true
  go true e = absurd cc
  go false e = refl

pub of_other_kind : (blanks : Bool) (c : ℕ) → (is_blank c ≡ blanks → ⊥) → is_blank_or_not blanks c ≡ false
of_other_kind true c h = go (is_blank c) h where
  go : (b : Bool) → (b ≡ true → ⊥) → b ≡ false
  go true e = absurd (e refl)
  go false e = refl
of_other_kind false c h = go (is_blank c) h where
  go : (b : Bool) → (b ≡ false → ⊥) → not b ≡ false
  go true e = refl
  go false e = absurd (e refl)
