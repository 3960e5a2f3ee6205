-- Real-time commands in lists of bytes: found from the first byte on, in a part, and across the end of a part.
use Rattle.std.proofs.Common.{◌≡◌, ◌≢◌, ◌≤◌, ◌<◌, ◌⊎◌, inl, inr, ℕ, zero, suc, length, drop, Bool, true, false, IsTrue, List, [], ◌∷◌, ◌++◌, refl, sym, ◌∙◌, ap, append_assoc, append-nil, arith}
use Rattle.std.proofs.lemmas.Bool.Decides.{nat_tests}
use Rattle.std.specs.Prelude.{◌||◌, ◌&&◌, ◌==◌, nat_le, slice_index}
use Rattle.escpos_command.proofs.Copied.{same_parts}
use Rattle.escpos_command.specs.declared.bytes.TheConstants.{DLE, EOT}
use Rattle.escpos_real_time.specs.declared.scan.TheConstants.{ENQ, DC4}
use Rattle.escpos_real_time.specs.RealTime.{HoldsRealTime, is_real_time}
use Rattle.escpos_real_time.specs.Scan.{holds}

-- ## Found from the first byte on

one_on : (b : ℕ) (bytes : List ℕ) → HoldsRealTime bytes → HoldsRealTime (b ∷ bytes)
one_on b bytes h = record {
  before = b ∷ h.before;
  first = h.first;
  second = h.second;
  third = h.third;
  following = h.following;
  split = ap (λ l. b ∷ l) h.split;
  real_time = h.real_time;
}

by_first : (t : Bool) (a b n : ℕ) (bytes : List ℕ) → is_real_time a b n ≡ t → IsTrue (t || holds (b ∷ n ∷ bytes))
    → (IsTrue (holds (b ∷ n ∷ bytes)) → HoldsRealTime (b ∷ n ∷ bytes)) → HoldsRealTime (a ∷ b ∷ n ∷ bytes)
by_first true a b n bytes is h later = record { before = []; first = a; second = b; third = n; following = bytes; split = refl; real_time = is }
by_first false a b n bytes is h later = one_on a (b ∷ n ∷ bytes) (later h)

pub found : (bytes : List ℕ) → IsTrue (holds bytes) → HoldsRealTime bytes
found [] h = absurd (let clash : false ≡ true = h in cc)
found (a ∷ []) h = absurd (let clash : false ≡ true = h in cc)
found (a ∷ b ∷ []) h = absurd (let clash : false ≡ true = h in cc)
found (a ∷ b ∷ n ∷ bytes) h = by_first (is_real_time a b n) a b n bytes refl h (found (b ∷ n ∷ bytes))

or_true : (t : Bool) → (t || true) ≡ true
or_true true = refl
or_true false = refl

later : (a : ℕ) (bytes : List ℕ) → IsTrue (holds bytes) → IsTrue (holds (a ∷ bytes))
later a [] h = h
later a (b ∷ []) h = h
later a (b ∷ n ∷ bytes) h = ap (λ t. is_real_time a b n || t) h ∙ or_true (is_real_time a b n)

after : (before bytes : List ℕ) → IsTrue (holds bytes) → IsTrue (holds (before ++ bytes))
after [] bytes h = h
after (b ∷ before) bytes h = later b (before ++ bytes) (after before bytes h)

pub finds : (bytes : List ℕ) → HoldsRealTime bytes → IsTrue (holds bytes)
finds bytes h =
    let here : IsTrue (holds (h.first ∷ h.second ∷ h.third ∷ h.following)) = ap (λ t. t || holds (h.second ∷ h.third ∷ h.following)) h.real_time in
    ap holds h.split ∙ after h.before (h.first ∷ h.second ∷ h.third ∷ h.following) here

-- Two bytes 00 before the first are none of a real-time command.
pub from_start : (bytes : List ℕ) → holds (0 ∷ 0 ∷ bytes) ≡ holds bytes
from_start [] = refl
from_start (b ∷ []) = refl
from_start (b ∷ n ∷ bytes) = refl

-- ## Parts

pub within : (before bytes following : List ℕ) → HoldsRealTime bytes → HoldsRealTime (before ++ (bytes ++ following))
within before bytes following h = record {
  before = before ++ h.before;
  first = h.first;
  second = h.second;
  third = h.third;
  following = h.following ++ following;
  split =
      ap (λ l. before ++ (l ++ following)) h.split
      ∙ ap (λ l. before ++ l) (append_assoc h.before (h.first ∷ h.second ∷ h.third ∷ h.following) following)
      ∙ sym (append_assoc before h.before (h.first ∷ h.second ∷ h.third ∷ (h.following ++ following)));
  real_time = h.real_time;
}

-- No real-time command has this byte after its first.
abbrev pub IsStart : ℕ → Type 0
IsStart b = (9 ≤ b) × (b ≢ 20)

no_second : (a b n : ℕ) → IsStart b → is_real_time a b n ≡ false
no_second a b n (large, other) = grind (arith, nat_tests)

pub no_third : (a b n : ℕ) → 9 ≤ n → is_real_time a b n ≡ false
no_third a b n large = grind (arith, nat_tests)

one_before : (a b : ℕ) (bytes : List ℕ) → IsStart b → holds (a ∷ b ∷ bytes) ≡ holds (b ∷ bytes)
one_before a b [] s = refl
one_before a b (n ∷ bytes) s = ap (λ t. t || holds (b ∷ n ∷ bytes)) (no_second a b n s)

not_true : {t : Bool} → t ≢ true → t ≡ false
not_true {t = true} h = absurd (h refl)
not_true {t = false} h = refl

-- A byte other than DLE begins none.
pub skip : (a : ℕ) (bytes : List ℕ) → (a == DLE) ≡ false → holds (a ∷ bytes) ≡ holds bytes
skip a [] e = refl
skip a (b ∷ []) e = refl
skip a (b ∷ n ∷ bytes) e =
    let rest = b == EOT && (nat_le 1 n && nat_le n 8) || b == ENQ && nat_le n 2 || b == DC4 && (nat_le 1 n && nat_le n 3 || nat_le 6 n && nat_le n 8) in
    ap (λ t. t && rest || holds (b ∷ n ∷ bytes)) e

pub not_one : (a : ℕ) → a ≢ DLE → (a == DLE) ≡ false
not_one a other = grind (arith, nat_tests, other)

-- Bytes none of which is DLE.
pub none_held : (bytes following : List ℕ) → ((k : ℕ) → k < length bytes → (slice_index bytes k == DLE) ≢ true) → holds (bytes ++ following) ≡ holds following
none_held [] following none = refl
none_held (b ∷ bytes) following none =
    skip b (bytes ++ following) (not_true (none 0 (omega arith)))
    ∙ none_held bytes following (λ k h. none (suc k) (omega (arith, h)))

-- Up to the first DLE, after which a byte stands that is none.
pub held_from : (bytes following : List ℕ) (k : ℕ) → k < length bytes → ((i : ℕ) → i < k → (slice_index bytes i == DLE) ≢ true) → (slice_index bytes k == DLE) ≡ true
    → holds (bytes ++ following) ≡ holds (DLE ∷ (drop (suc k) bytes ++ following))
held_from [] following k h none is = absurd (omega (arith, h))
held_from (b ∷ bytes) following zero h none is =
    let e : b ≡ DLE = grind (arith, nat_tests, is) in
    ap (λ d. holds (d ∷ (bytes ++ following))) e
held_from (b ∷ bytes) following (suc k) h none is =
    skip b (bytes ++ following) (not_true (none 0 (omega arith)))
    ∙ held_from bytes following k (omega (arith, h)) (λ i l. none (suc i) (omega (arith, l))) is

or_assoc : (r s t : Bool) → (r || (s || t)) ≡ ((r || s) || t)
or_assoc true s t = refl
or_assoc false s t = refl

pub joined : (some : List ℕ) (b : ℕ) (bytes : List ℕ) → IsStart b → holds (some ++ b ∷ bytes) ≡ (holds some || holds (b ∷ bytes))
joined [] b bytes s = refl
joined (x ∷ []) b bytes s = one_before x b bytes s
joined (x ∷ y ∷ []) b bytes s = ap (λ t. t || holds (y ∷ b ∷ bytes)) (no_third x y b s.0) ∙ one_before y b bytes s
joined (x ∷ y ∷ z ∷ some) b bytes s =
    ap (λ t. is_real_time x y z || t) (joined (y ∷ z ∷ some) b bytes s) ∙ or_assoc (is_real_time x y z) (holds (y ∷ z ∷ some)) (holds (b ∷ bytes))

either : (s t : Bool) → IsTrue (s || t) → IsTrue s ⊎ IsTrue t
either true t h = inl refl
either false t h = inr h

pub held_by_part : (some : List ℕ) (b : ℕ) (bytes : List ℕ) → IsStart b → HoldsRealTime (some ++ b ∷ bytes) → HoldsRealTime some ⊎ HoldsRealTime (b ∷ bytes)
held_by_part some b bytes s h = elim (either (holds some) (holds (b ∷ bytes)) (sym (joined some b bytes s) ∙ finds (some ++ b ∷ bytes) h)) [
  | inl first ↦ inl (found some first)
  | inr second ↦ inr (found (b ∷ bytes) second)
]

-- ## Four parts in turn

pub passed : (all rest : List ℕ) (ends : Bool) → holds all ≡ (ends || holds rest) → ends ≡ false → holds all ≡ holds rest
passed all rest ends e none = e ∙ ap (λ t. t || holds rest) none

pub stopped : (all rest : List ℕ) (ends : Bool) → holds all ≡ (ends || holds rest) → ends ≡ true → holds all ≡ true
stopped all rest ends e does = e ∙ ap (λ t. t || holds rest) does

or_false : (t : Bool) → (t || false) ≡ t
or_false true = refl
or_false false = refl

pub ended : (all : List ℕ) (a b : ℕ) (ends : Bool) → holds all ≡ (ends || holds (a ∷ b ∷ [])) → holds all ≡ ends
ended all a b ends e = e ∙ or_false ends

pub in_turn : (p q r s x y z w : List ℕ) → p ≡ x → q ≡ y → r ≡ z → s ≡ w → holds (x ++ y ++ z ++ w) ≡ holds (0 ∷ 0 ∷ (p ++ (q ++ (r ++ (s ++ [])))))
in_turn p q r s x y z w e f g h =
    let all = p ++ (q ++ (r ++ (s ++ []))) in
    let whole : p ++ q ++ r ++ s ≡ all =
    append_assoc (p ++ q) r s ∙ append_assoc p q (r ++ s) ∙ ap (λ l. p ++ (q ++ (r ++ l))) (sym (append-nil s)) in
    ap holds (sym (same_parts p q r s x y z w e f g h) ∙ whole) ∙ sym (from_start all)

pub decided : (t : Bool) (bytes : List ℕ) → holds bytes ≡ t → (IsTrue t → HoldsRealTime bytes) × (HoldsRealTime bytes → IsTrue t)
decided t bytes e = (λ h. found bytes (e ∙ h), λ h. sym e ∙ finds bytes h)
