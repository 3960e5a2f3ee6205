-- Where what is shown for a character stands, and why there.
use Rattle.std.proofs.Common.{◌≡◌, ℕ, zero, suc, ◌<◌, ◌≤◌, ◌⊎◌, Bool, true, false, ◌==◌, cond, List, [], ◌∷◌, ◌++◌, length, slice_index, refl, sym, ap, subst, ◌∙◌, arith, eqb-true, Option, Some, None, Ok, Err, inl, inr}
use Rattle.std.specs.Prelude.{option_map, option_to_list, ok_or}
use Rattle.std.specs.List.{range_with_len}
use Rattle.std.proofs.lemmas.Bool.{cases_lt}
use Rattle.std.proofs.lemmas.Option.{none-some, same_Some}
use Rattle.std.proofs.lemmas.List.FromFn.{length-range_with_len}
use Rattle.std.proofs.lemmas.List.{get_or_default}
use Rattle.std.proofs.lemmas.List.Quantifiers.{position-Some}
use Rattle.escpos_text.specs.declared.encoding.Encoding.{Encoding}
use Rattle.escpos_text.specs.declared.encoding.TextFault.TheVariants.{Control, NoCharacter}
use Rattle.escpos_text.specs.declared.placing.Place.{Place}
use Rattle.escpos_text.specs.Reading.{reads, is_some_of, byte_for}
use Rattle.escpos_text.specs.Writing.{or_else, first_answer, place_in, place_among, in_reach, shown_for, place_for, placed}
use Rattle.escpos_text.specs.Laws.{Lack, IsShownFor, IsFirstWith, NothingShows}
use Rattle.escpos_text.proofs.CharacterSets.{printed-above}
use Rattle.escpos_text.proofs.FirstAnswers.{placed-control, placed-other}
use Rattle.escpos_text.proofs.LowBytes.{low_cases}
use Rattle.escpos_text.proofs.LowestBytes.{reads-low, is_some_of-true, byte_at}

-- The first that answers, and those before it that don't.
record Answers {B : Type 0} (ask : ℕ → Option B) (xs : List ℕ) (y : B) : Type 0 where
  at : ℕ
  within : at < length xs
  here : ask (slice_index xs at) ≡ Some y
  before : (j : ℕ) → j < at → ask (slice_index xs j) ≡ None

one_more : {B : Type 0} (ask : ℕ → Option B) (x : ℕ) (xs : List ℕ) (y : B) → ask x ≡ None → Answers ask xs y → Answers ask (x ∷ xs) y
one_more ask x xs y none r = record {
  at = suc r.at;
  within = let w = r.within in omega arith;
  here = r.here;
  before = λ j lt. not_before j lt;
} where
  not_before : (j : ℕ) → j < suc r.at → ask (slice_index (x ∷ xs) j) ≡ None
  not_before zero lt = none
  not_before (suc j) lt = r.before j (omega arith)

answers : {B : Type 0} (ask : ℕ → Option B) (xs : List ℕ) (y : B) → first_answer ask xs ≡ Some y → Answers ask xs y
answers ask [] y h = absurd (none-some y h)
answers {B} ask (x ∷ xs) y h = go (ask x) refl h (answers ask xs y) where
  go : (o : Option B) → ask x ≡ o → or_else o (first_answer ask xs) ≡ Some y → (first_answer ask xs ≡ Some y → Answers ask xs y) → Answers ask (x ∷ xs) y
  go (Some z) e same rest = record { at = 0; within = omega arith; here = e ∙ same; before = λ j lt. absurd (omega arith) }
  go None e later rest = one_more ask x xs y e (rest later)

none_answers : {B : Type 0} (ask : ℕ → Option B) (xs : List ℕ) → first_answer ask xs ≡ None → (i : ℕ) → i < length xs → ask (slice_index xs i) ≡ None
none_answers ask [] h i lt = absurd (omega arith)
none_answers {B} ask (x ∷ xs) h i lt = go (ask x) refl h i lt (none_answers ask xs) where
  go : (o : Option B) → ask x ≡ o → or_else o (first_answer ask xs) ≡ None → (i : ℕ) → i < length (x ∷ xs) → (first_answer ask xs ≡ None → (k : ℕ) → k < length xs → ask (slice_index xs k) ≡ None) → ask (slice_index (x ∷ xs) i) ≡ None
  go (Some z) e h i lt rest = absurd (none-some z (sym h))
  go None e h zero lt rest = e
  go None e h (suc i) lt rest = rest h i (omega arith)

-- What the byte of a character reads as.
pub byte_for-reads : (set table c b : ℕ) → byte_for set table c ≡ Some b → (b < 256) × (reads set table b ≡ Some c)
unfolding byte_for
byte_for-reads set table c b h =
    let test : ℕ → Bool = λ k. is_some_of (reads set table k) c in
    let facts = position-Some test (range_with_len 0 256) b 0 h in
    let below : b < 256 = subst (λ n. b < n) (length-range_with_len 0 256) facts.0 in
    (below, is_some_of-true _ c (sym (ap test (byte_at b below)) ∙ facts.1))

-- No control code reads as a character.
pub reads-printed : (set table b c : ℕ) → reads set table b ≡ Some c → 0x20 ≤ b
reads-printed set table b c h =
    elim (cases_lt b 0x80) [
      | inl low ↦ elim (low_cases set b c (sym (reads-low set table b low) ∙ h)) [
        | inl own ↦ let from = own.from in let same = own.same in omega arith
        | inr e ↦ subst (λ n. 0x20 ≤ n) e.at (printed-above e.place e.within)
      ]
      | inr high ↦ omega arith
    ]

abbrev at_table : ℕ → ℕ → Place
at_table table byte = record { table = table; byte = byte }

-- Where a table has it.
pub place_in-Some : (set c table : ℕ) (place : Place) → place_in set c table ≡ Some place → (place.table ≡ table) × (byte_for set table c ≡ Some place.byte)
place_in-Some set c table place h = go (byte_for set table c) refl h where
  go : (o : Option ℕ) → byte_for set table c ≡ o → option_map (at_table table) o ≡ Some place → (place.table ≡ table) × (byte_for set table c ≡ Some place.byte)
  go None e h = absurd (none-some place h)
  go (Some byte) e h =
      let same : ◌≡◌ {A = Place} (record { table = table; byte = byte }) place = same_Some _ place h in
      (sym (ap (λ (p : Place). p.table) same), e ∙ ap (λ (p : Place). Some p.byte) same)

pub place_in-None : (set c table : ℕ) → place_in set c table ≡ None → byte_for set table c ≡ None
place_in-None set c table h = go (byte_for set table c) refl h where
  go : (o : Option ℕ) → byte_for set table c ≡ o → option_map (at_table table) o ≡ None → byte_for set table c ≡ None
  go None e h = e
  go (Some byte) e h = absurd (none-some _ (sym h))

-- The table in force comes first, and then the choice.
pub record Reached (e : Encoding) (c : ℕ) (place : Place) : Type 0 where
  pub byte : byte_for e.set place.table c ≡ Some place.byte
  pub reason : (place.table ≡ e.table) ⊎ ((byte_for e.set e.table c ≡ None) × IsFirstWith e.set e.choice c place.table)

pub reached : (e : Encoding) (c : ℕ) (place : Place) → place_among e.set (in_reach e) c ≡ Some place → Reached e c place
unfolding place_among
reached e c place h = go (place_in e.set c e.table) refl h where
  go : (o : Option Place) → place_in e.set c e.table ≡ o → or_else o (first_answer (place_in e.set c) e.choice) ≡ Some place → Reached e c place
  go (Some p) is same =
      let has = place_in-Some e.set c e.table place (is ∙ same) in
      record { byte = ap (λ t. byte_for e.set t c) has.0 ∙ has.1; reason = inl has.0 }
  go None is later =
      let a = answers (place_in e.set c) e.choice place later in
      let has = place_in-Some e.set c (slice_index e.choice a.at) place a.here in
      record {
        byte = ap (λ t. byte_for e.set t c) has.0 ∙ has.1;
        reason = inr (place_in-None e.set c e.table is, (a.at, a.within, sym has.0, λ j lt. place_in-None e.set c (slice_index e.choice j) (a.before j lt)));
      }

pub lacking : (e : Encoding) (c : ℕ) → place_among e.set (in_reach e) c ≡ None → Lack e.set (in_reach e) c
unfolding place_among
lacking e c h = λ k d lt.
    let none = none_answers (place_in e.set c) (in_reach e) h k lt in
    subst (λ t. byte_for e.set t c ≡ None) (get_or_default (in_reach e) k 0 d lt) (place_in-None e.set c (slice_index (in_reach e) k) none)

-- What is shown, and where it stands.
pub record Stands (e : Encoding) (c : ℕ) (place : Place) : Type 0 where
  pub shown : ℕ
  pub printed : 0x20 ≤ c
  pub is_shown : IsShownFor e c shown
  pub reached : Reached e shown place

instead : (e : Encoding) (c d k : ℕ) → k < length (shown_for e c) → slice_index (shown_for e c) (suc k) ≡ d → Lack e.set (in_reach e) c → suc k < length (shown_for e c) → IsShownFor e c d
instead e c d k lt is lack within = inr (lack, go (c == 0xA0) refl e.replacement refl k is within) where
  go : (t : Bool) → (c == 0xA0) ≡ t → (r : Option ℕ) → e.replacement ≡ r → (k : ℕ)
      → slice_index (c ∷ cond t (0x20 ∷ []) [] ++ option_to_list r) (suc k) ≡ d → suc k < length (c ∷ cond t (0x20 ∷ []) [] ++ option_to_list r)
      → ((c ≡ 0xA0) × (d ≡ 0x20)) ⊎ (e.replacement ≡ Some d)
  go true space r er zero is within = inl (eqb-true c 0xA0 space, sym is)
  go true space None er (suc k) is within = absurd (omega arith)
  go true space (Some x) er (suc zero) is within = inr (er ∙ ap Some is)
  go true space (Some x) er (suc (suc k)) is within = absurd (omega arith)
  go false other None er k is within = absurd (omega arith)
  go false other (Some x) er zero is within = inr (er ∙ ap Some is)
  go false other (Some x) er (suc k) is within = absurd (omega arith)

stands_for : (e : Encoding) (c : ℕ) (place : Place) → 0x20 ≤ c → place_for e c ≡ Some place → Stands e c place
unfolding place_for
stands_for e c place le h =
    let a = answers (place_among e.set (in_reach e)) (shown_for e c) place h in
    record {
      shown = slice_index (shown_for e c) a.at;
      printed = le;
      is_shown = which a.at a.within a.before;
      reached = reached e (slice_index (shown_for e c) a.at) place a.here;
    } where
      which : (at : ℕ) → at < length (shown_for e c) → ((j : ℕ) → j < at → place_among e.set (in_reach e) (slice_index (shown_for e c) j) ≡ None) → IsShownFor e c (slice_index (shown_for e c) at)
      which zero within before = inl refl
      which (suc k) within before = instead e c (slice_index (shown_for e c) (suc k)) k (omega arith) refl (lacking e c (before 0 (omega arith))) within

ok_or-Ok : {A E : Type 0} (o : Option A) (fault : E) (x : A) → ok_or o fault ≡ Ok x → o ≡ Some x
ok_or-Ok None fault x h = absurd (cc)
ok_or-Ok (Some y) fault x h = cc

pub stands : (e : Encoding) (c : ℕ) (place : Place) → placed e c ≡ Ok place → Stands e c place
stands e c place h =
    elim (cases_lt c 0x20) [
      | inl lt ↦ absurd (let clash = sym (placed-control e c lt) ∙ h in cc)
      | inr le ↦ stands_for e c place le (ok_or-Ok (place_for e c) (NoCharacter c) place (sym (placed-other e c le) ∙ h))
    ]

-- A character that is refused.
ok_or-Err : {A E : Type 0} (o : Option A) (fault why : E) → ok_or o fault ≡ Err why → (o ≡ None) × (fault ≡ why)
ok_or-Err None fault why h = (refl, cc)
ok_or-Err (Some y) fault why h = absurd (cc)

pub refused-control : (e : Encoding) (c d : ℕ) → placed e c ≡ Err (Control d) → (c ≡ d) × (c < 0x20)
refused-control e c d h =
    elim (cases_lt c 0x20) [
      | inl lt ↦ (let same = sym (placed-control e c lt) ∙ h in cc, lt)
      | inr le ↦ let why = (ok_or-Err (place_for e c) (NoCharacter c) (Control d) (sym (placed-other e c le) ∙ h)).1 in absurd (cc)
    ]

pub refused-character : (e : Encoding) (c d : ℕ) → placed e c ≡ Err (NoCharacter d) → (c ≡ d) × ((0x20 ≤ c) × NothingShows e c)
unfolding place_for
refused-character e c d h =
    elim (cases_lt c 0x20) [
      | inl lt ↦ absurd (let clash = sym (placed-control e c lt) ∙ h in cc)
      | inr le ↦
          let parts = ok_or-Err (place_for e c) (NoCharacter c) (NoCharacter d) (sym (placed-other e c le) ∙ h) in
          let why = parts.1 in (
            let same : c ≡ d = cc in same,
            (
              le,
              λ k x lt.
                  let none = none_answers (place_among e.set (in_reach e)) (shown_for e c) parts.0 k lt in
                  subst (λ n. Lack e.set (in_reach e) n) (get_or_default (shown_for e c) k 0 x lt) (lacking e (slice_index (shown_for e c) k) none),
            ),
          )
    ]
