-- Which byte from 80 on reads as a character.
use Rattle.std.proofs.Common.{◌≡◌, ◌≢◌, ℕ, ◌+◌, ◌-◌, ◌<◌, Bool, true, false, ◌==◌, cond, length, slice_index, refl, ap, ◌∙◌, arith, eqb-true, ne_eqb, Some, None, position, inl, inr}
use Rattle.std.proofs.lemmas.Bool.{cases_lt, eqb-false, cond-false}
use Rattle.std.proofs.lemmas.Option.{none-some, same_Some}
use Rattle.std.proofs.lemmas.List.{get_or_past}
use Rattle.std.proofs.lemmas.List.Quantifiers.{position-Some}
use Rattle.escpos_text.specs.CodeTables.{characters_of}
use Rattle.escpos_text.specs.Reading.{unless_open, reads_high}
use Rattle.escpos_text.specs.HighBytes.{IsLowestHigh}
use Rattle.escpos_text.proofs.Places.{place_fails}

pub unless_open-Some : (x c : ℕ) → unless_open x ≡ Some c → (x ≡ c) × (x ≢ 0)
unless_open-Some x c h = go (x == 0) refl h where
  go : (t : Bool) → (x == 0) ≡ t → cond t None (Some x) ≡ Some c → (x ≡ c) × (x ≢ 0)
  go true e h = absurd (none-some _ h)
  go false e h = (same_Some _ _ h, λ z. absurd (eqb-false x 0 e z))

pub unless_open-real : (x : ℕ) → x ≢ 0 → unless_open x ≡ Some x
unless_open-real x real = cond-false _ _ _ (ne_eqb x 0 real)

pub high-lowest : (table c place : ℕ) → c ≢ 0 → position (λ x. x == c) (characters_of table) ≡ Some place → place < 128 → IsLowestHigh table c (Some (place + 0x80))
unfolding reads_high
high-lowest table c place real at short =
    let facts = position-Some (λ x. x == c) (characters_of table) place 0 at in
    let back : place + 0x80 - 0x80 ≡ place = omega arith in
    let has : slice_index (characters_of table) (place + 0x80 - 0x80) ≡ c = ap (slice_index (characters_of table)) back ∙ eqb-true _ _ facts.1 in (
      omega arith,
      omega arith,
      ap unless_open has ∙ unless_open-real c real,
      λ k from less h. let there = unless_open-Some _ c h in let within : k - 0x80 < place = omega arith in eqb-false _ _ (facts.2 (k - 0x80) within) there.0,
    )

pub high-none : (table c : ℕ) → c ≢ 0 → position (λ x. x == c) (characters_of table) ≡ None → IsLowestHigh table c None
unfolding reads_high
high-none table c real at = λ b from h.
    let there = unless_open-Some _ c h in
    elim (cases_lt (b - 0x80) (length (characters_of table))) [
      | inl within ↦ eqb-false _ _ (place_fails (λ x. x == c) (characters_of table) (b - 0x80) at within) there.0
      | inr past ↦ there.1 (get_or_past (characters_of table) (b - 0x80) 0 past)
    ]

-- NUL is no printed character.
pub high-nul : (table : ℕ) → IsLowestHigh table 0 None
unfolding reads_high
high-nul table = λ b from h. let there = unless_open-Some _ 0 h in there.1 there.0
