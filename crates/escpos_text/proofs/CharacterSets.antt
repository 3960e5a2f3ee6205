-- What is computed of the international character sets.
use Rattle.std.proofs.Common.{◌≡◌, ℕ, ◌<◌, ◌≤◌, ◌⊎◌, Bool, true, not, ◌||◌, ◌==◌, nat_lt, nat_le, List, [], length, get_or, slice_index, refl, ap, ◌∙◌, arith, eqb-true, ltb-true, leb-true, Option, Some, None, position, inl, inr}
use Rattle.std.proofs.lemmas.Bool.{or_cases, not-true, ltb-false}
use Rattle.std.proofs.lemmas.List.{get_or_past}
use Rattle.std.proofs.lemmas.List.Sums.{AllPass-from_list_all}
use Rattle.std.specs.List.{list_all, range_with_len}
use Rattle.escpos_text.specs.CharacterSets.{exchanged_bytes, character_sets, characters_in}
use Rattle.escpos_text.specs.Reading.{is_some_of}
use Rattle.escpos_text.proofs.CodeTables.{below_all}

pub unknown_set : (set : ℕ) → 18 ≤ set → characters_in set ≡ []
unfolding characters_in character_sets
unknown_set set le = get_or_past character_sets set [] le

long : list_all (λ cs. length cs == 12) character_sets ≡ true
unfolding character_sets
long = refl

pub set-long : (set : ℕ) → set < 18 → length (characters_in set) ≡ 12
unfolding characters_in character_sets
set-long set lt = eqb-true _ _ (AllPass-from_list_all (λ cs. length cs == 12) character_sets long set [] lt)

-- The twelve bytes rise, each stands at its own place, and all are ASCII's.
at_own_place : ℕ → Bool
at_own_place p = is_some_of (position (λ x. x == slice_index exchanged_bytes p) exchanged_bytes) p

own_places : list_all at_own_place (range_with_len 0 12) ≡ true
unfolding at_own_place exchanged_bytes
own_places = refl

some_of : (o : Option ℕ) (c : ℕ) → is_some_of o c ≡ true → o ≡ Some c
some_of None c h = cc
some_of (Some d) c h = ap Some (eqb-true d c h)

pub own-place : (p : ℕ) → p < 12 → position (λ x. x == slice_index exchanged_bytes p) exchanged_bytes ≡ Some p
unfolding at_own_place
own-place p lt = some_of _ p (below_all at_own_place 12 p own_places lt)

rises_to : ℕ → Bool
rises_to p = list_all (λ q. not (nat_lt (slice_index exchanged_bytes q) (slice_index exchanged_bytes p)) || nat_lt q p) (range_with_len 0 12)

rising : list_all rises_to (range_with_len 0 12) ≡ true
unfolding rises_to exchanged_bytes
rising = refl

pub lower_place : (p q : ℕ) → p < 12 → q < 12 → slice_index exchanged_bytes q < slice_index exchanged_bytes p → q < p
unfolding rises_to
lower_place p q here there lt =
    elim (or_cases _ _ (below_all (λ k. not (nat_lt (slice_index exchanged_bytes k) (slice_index exchanged_bytes p)) || nat_lt k p) 12 q (below_all rises_to 12 p rising here) there)) [
      | inl above ↦ absurd (let back : slice_index exchanged_bytes p ≤ slice_index exchanged_bytes q = ltb-false _ _ (not-true _ above) in omega arith)
      | inr below ↦ ltb-true _ _ below
    ]

pub below_80 : (p : ℕ) → p < 12 → slice_index exchanged_bytes p < 0x80
unfolding exchanged_bytes
below_80 p lt = ltb-true _ _ (AllPass-from_list_all (λ b. nat_lt b 0x80) exchanged_bytes refl p 0 lt)

-- A set has at each place the byte itself or a character that isn't ASCII.
stays_at : List ℕ → ℕ → Bool
stays_at cs p = nat_le 0x80 (slice_index cs p) || (slice_index cs p == slice_index exchanged_bytes p)

stays : list_all (λ cs. list_all (stays_at cs) (range_with_len 0 12)) character_sets ≡ true
unfolding character_sets stays_at exchanged_bytes
stays = refl

pub itself_or_not_ascii : (set p : ℕ) → set < 18 → p < 12 → (0x80 ≤ slice_index (characters_in set) p) ⊎ (slice_index (characters_in set) p ≡ slice_index exchanged_bytes p)
unfolding characters_in character_sets stays_at
itself_or_not_ascii set p lt place =
    elim (or_cases _ _ (below_all (stays_at (get_or character_sets set [])) 12 p (AllPass-from_list_all (λ cs. list_all (stays_at cs) (range_with_len 0 12)) character_sets stays set [] lt) place)) [
      | inl high ↦ inl (leb-true _ _ high)
      | inr same ↦ inr (eqb-true _ _ same)
    ]

-- Set 0 is ASCII.
pub set_0-ascii : characters_in 0 ≡ exchanged_bytes
unfolding characters_in character_sets exchanged_bytes
set_0-ascii = refl

pub set-at : (set i : ℕ) → i ≡ set → set < 18 → (get_or character_sets i [] ≡ characters_in set) × (length (get_or character_sets i []) ≡ 12)
unfolding characters_in
set-at set i is lt =
    let same : get_or character_sets i [] ≡ characters_in set = ap (λ n. get_or character_sets n []) is in
    (same, ap length same ∙ set-long set lt)

pub twelve : length exchanged_bytes ≡ 12
unfolding exchanged_bytes
twelve = refl

pub set_17-ascii : characters_in 17 ≡ exchanged_bytes
unfolding characters_in character_sets exchanged_bytes
set_17-ascii = refl

pub printed-above : (p : ℕ) → p < 12 → 0x20 ≤ slice_index exchanged_bytes p
unfolding exchanged_bytes
printed-above p lt = leb-true _ _ (AllPass-from_list_all (λ b. nat_le 0x20 b) exchanged_bytes refl p 0 lt)
