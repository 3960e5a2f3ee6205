-- Which byte below 80 reads as a character.
use Rattle.std.proofs.Common.{◌≡◌, ◌≢◌, ℕ, ◌<◌, ◌≤◌, ◌⊎◌, true, false, ◌==◌, slice_index, refl, sym, ap, subst, ◌∙◌, arith, eqb-true, leb-true, Option, Some, None, position, inl, inr}
use Rattle.std.specs.Prelude.{slice_get, eqb}
use Rattle.std.specs.Option.{option_eq}
use Rattle.std.proofs.lemmas.Bool.{and_parts, cases_lt, eqb-false}
use Rattle.std.proofs.lemmas.Option.{cond_some, get_or_from_slice_get, slice_get_within, slice_get-get_or, none-some, same_Some}
use Rattle.std.proofs.lemmas.List.Quantifiers.{position-Some}
use Rattle.escpos_text.specs.CharacterSets.{exchanged_bytes, characters_in}
use Rattle.escpos_text.specs.Reading.{reads_at, reads_low, IsLowest}
use Rattle.escpos_text.proofs.CharacterSets.{unknown_set, own-place, lower_place, below_80, twelve, itself_or_not_ascii, set_0-ascii}
use Rattle.escpos_text.proofs.Places.{place_fails}

-- A byte that a set doesn't exchange stands for itself.
pub record Own (b c : ℕ) : Type 0 where
  pub same : b ≡ c
  pub from : 0x20 ≤ c
  pub to : c ≤ 0x7E

-- One that it exchanges stands for the character at its place.
pub record Exchanged (set b c : ℕ) : Type 0 where
  pub place : ℕ
  pub within : place < 12
  pub known : set < 18
  pub at : slice_index exchanged_bytes place ≡ b
  pub reads : slice_get (characters_in set) place ≡ Some c
  pub has : slice_index (characters_in set) place ≡ c

exchanged-at : (set b c place : ℕ) → position (λ x. x == b) exchanged_bytes ≡ Some place → slice_get (characters_in set) place ≡ Some c → Exchanged set b c
exchanged-at set b c place at h =
    let facts = position-Some (λ x. x == b) exchanged_bytes place 0 at in
    record {
      place = place;
      within = omega (arith, facts.0, twelve);
      known = elim (cases_lt set 18) [
        | inl lt ↦ lt
        | inr le ↦ absurd (none-some c (ap (λ cs. slice_get cs place) (sym (unknown_set set le)) ∙ h))
      ];
      at = eqb-true _ _ facts.1;
      reads = h;
      has = get_or_from_slice_get (characters_in set) place c 0 h;
    }

pub low_cases : (set b c : ℕ) → reads_low set b ≡ Some c → Own b c ⊎ Exchanged set b c
unfolding reads_low
low_cases set b c h = go (position (λ x. x == b) exchanged_bytes) refl h where
  go : (o : Option ℕ) → position (λ x. x == b) exchanged_bytes ≡ o → reads_at o set b ≡ Some c → Own b c ⊎ Exchanged set b c
  go None e h =
      let parts = cond_some _ _ _ h in
      let bounds = and_parts _ _ parts.0 in
      let from : 0x20 ≤ b = leb-true _ _ bounds.0 in
      let to : b ≤ 0x7E = leb-true _ _ bounds.1 in
      let same : b ≡ c = parts.1 in
      inl (record { same = same; from = omega arith; to = omega arith })
  go (Some place) e h = inr (exchanged-at set b c place e h)

-- A character of ASCII is read from its own byte alone, below 80.
pub own-only : (set b c : ℕ) → c < 0x80 → reads_low set b ≡ Some c → b ≡ c
own-only set b c lt h =
    elim (low_cases set b c h) [
      | inl own ↦ own.same
      | inr e ↦ elim (itself_or_not_ascii set e.place e.known e.within) [
        | inl high ↦ absurd (omega (arith, e.has))
        | inr same ↦ sym e.at ∙ sym same ∙ e.has
      ]
    ]

pub own-lowest : (set c : ℕ) → c < 0x80 → reads_low set c ≡ Some c → IsLowest 0x80 (reads_low set) c (Some c)
own-lowest set c lt h = (lt, h, λ k less e. let same = own-only set k c lt e in absurd (omega arith))

pub own-none : (set c : ℕ) → c < 0x80 → reads_low set c ≢ Some c → IsLowest 0x80 (reads_low set) c None
own-none set c lt h = λ b less e. let same = own-only set b c lt e in h (subst (λ k. reads_low set k ≡ Some c) same e)

-- Any other is read from one of the twelve.
others : (set b c : ℕ) → 0x80 ≤ c → reads_low set b ≡ Some c → Exchanged set b c
others set b c le h = elim (low_cases set b c h) [ inl own ↦ absurd (let to = own.to in omega arith) | inr e ↦ e ]

pub place-lowest : (set c place : ℕ) → 0x80 ≤ c → position (λ x. x == c) (characters_in set) ≡ Some place → place < 12 → IsLowest 0x80 (reads_low set) c (Some (slice_index exchanged_bytes place))
unfolding reads_low
place-lowest set c place le at within =
    let facts = position-Some (λ x. x == c) (characters_in set) place 0 at in
    let has : slice_index (characters_in set) place ≡ c = eqb-true _ _ facts.1 in (
      below_80 place within,
      ap (λ o. reads_at o set (slice_index exchanged_bytes place)) (own-place place within) ∙ slice_get-get_or (characters_in set) place 0 facts.0 ∙ ap Some has,
      λ k less h.
          let e = others set k c le h in
          let lower = lower_place place e.place within e.within (subst (λ n. n < slice_index exchanged_bytes place) (sym e.at) less) in
          eqb-false _ _ (facts.2 e.place lower) e.has,
    )

pub place-none : (set c : ℕ) → 0x80 ≤ c → position (λ x. x == c) (characters_in set) ≡ None → IsLowest 0x80 (reads_low set) c None
place-none set c le at = λ b less h.
    let e = others set b c le h in
    let within = slice_get_within (characters_in set) e.place c e.reads in
    eqb-false _ _ (place_fails (λ x. x == c) (characters_in set) e.place at within) e.has

-- Set 0 has ASCII alone.
pub set_0-none : (c : ℕ) → 0x80 ≤ c → IsLowest 0x80 (reads_low 0) c None
set_0-none c le = λ b less h.
    let e = others 0 b c le h in
    let small = below_80 e.place e.within in
    let same : slice_index exchanged_bytes e.place ≡ c = ap (λ cs. slice_index cs e.place) (sym set_0-ascii) ∙ e.has in
    absurd (omega arith)

-- What `==` says of a character that was read.
pub read_same : (o : Option ℕ) (c : ℕ) → true ≡ option_eq eqb o (Some c) → o ≡ Some c
read_same None c h = cc
read_same (Some d) c h = ap Some (eqb-true d c (sym h))

pub read_other : (o : Option ℕ) (c : ℕ) → false ≡ option_eq eqb o (Some c) → o ≢ Some c
read_other None c h e = none-some c e
read_other (Some d) c h e = eqb-false d c (sym h) (same_Some d c e)
