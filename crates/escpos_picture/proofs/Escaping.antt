-- Printed bytes are escaped as text.
use Rattle.std.proofs.Common.{◌≡◌, ℕ, ◌<◌, ◌≤◌, List, [], ◌∷◌, ◌++◌, get_or, length, Option, None, Some, refl, sym, subst, append_assoc, append-nil, arith, inl, inr, Bool, true, false, cond}
use Rattle.std.specs.Option.{unwrap_or}
use Rattle.std.proofs.lemmas.Bool.{cases_lt}
use Rattle.std.proofs.lemmas.Grind.{get_or_default_zero}
use Rattle.std.proofs.lemmas.List.Sums.{list_all-from_AllPass}
use Rattle.std.proofs.lemmas.Str.{inside_one}
use Rattle.std.specs.Prelude.{◌==◌, ◌&&◌, nat_lt, codes}
use Rattle.std.specs.Char.{encode_utf8}
use Rattle.std.specs.List.{Contains, list_all}
use Rattle.std.proofs.lemmas.Bool.Decides.{nat_tests}
use Rattle.escpos_text.specs.Printed.{is_printable}
use Rattle.escpos_text.specs.Reading.{reads}
use Rattle.escpos_text.proofs.Printable.{printable}
use Rattle.escpos_picture.specs.Characters.{replacement, escaped, character_text}
use Rattle.escpos_picture.specs.Escaping.{entities, is_plain, utf8_of, IsEscaped, nothing, byte, entity}
use Rattle.escpos_picture.specs.Rows.{characters_text}

pub both : (a b : Bool) → (a && b) ≡ true → (a ≡ true) × (b ≡ true)
both true b h = (refl, h)
both false b h = (h, absurd (cc))

-- Escaped texts in turn are an escaped text.
in_turn : {a t b u : List ℕ} → IsEscaped a t → IsEscaped b u → IsEscaped (a ++ b) (t ++ u)
in_turn nothing q = q
in_turn {b} {u} (byte x bytes text plain p) q = byte x (bytes ++ b) (text ++ u) plain (in_turn p q)
in_turn {b} {u} (entity x e bytes text one p) q =
    subst (IsEscaped (x ∷ (bytes ++ b))) (sym (append_assoc e text u)) (entity x e (bytes ++ b) (text ++ u) one (in_turn p q))

-- Plain bytes are themselves when escaped.
plain_text : (bytes : List ℕ) → list_all is_plain bytes ≡ true → IsEscaped bytes bytes
plain_text [] all = nothing
plain_text (b ∷ bytes) all =
    let parts = both (is_plain b) (list_all is_plain bytes) all in
    byte b bytes bytes parts.0 (plain_text bytes parts.1)

-- ## Characters from 80 on

-- All bytes of such a character are above those of ASCII, and so plain.
high_plain : (b : ℕ) → 0x80 ≤ b → is_plain b ≡ true
high_plain b h = grind (arith, nat_tests)

byte_plain : (c : ℕ) → 0x80 ≤ c → (k : ℕ) → k < length (encode_utf8 c) → is_plain (get_or (encode_utf8 c) k 0) ≡ true
byte_plain c h k lt = elim (cases_lt (get_or (encode_utf8 c) k 0) 128) [
  | inl low ↦
      let same : c ≡ get_or (encode_utf8 c) k 0 = inside_one c [] (encode_utf8 c) k (sym (append-nil (encode_utf8 c))) lt low in
      absurd (omega (arith, h, low, same))
  | inr from ↦ high_plain (get_or (encode_utf8 c) k 0) from
]

all_plain : (c : ℕ) → 0x80 ≤ c → list_all is_plain (encode_utf8 c) ≡ true
all_plain c h =
    list_all-from_AllPass is_plain (encode_utf8 c)
    (λ k d lt. subst (λ b. is_plain b ≡ true) (sym (get_or_default_zero (encode_utf8 c) k d lt)) (byte_plain c h k lt))

upper_text : (c : ℕ) → 0x80 ≤ c → IsEscaped (encode_utf8 c) (character_text c)
upper_text c h =
    let large : nat_lt c 0x80 ≡ false = grind (arith, nat_tests) in
    subst (λ v. IsEscaped (encode_utf8 c) (cond v (escaped c) (encode_utf8 c))) (sym large) (plain_text (encode_utf8 c) (all_plain c h))

-- ## ASCII

entity_of : (b c : ℕ) (e : List ℕ) → (b == c) ≡ true → Contains entities (c, e) → IsEscaped (b ∷ []) (e ++ [])
entity_of b c e same one =
    let is : c ≡ b = grind (arith, nat_tests) in
    subst (λ x. IsEscaped (x ∷ []) (e ++ [])) is (entity c e [] [] one nothing)

ascii_text : (b : ℕ) → nat_lt b 0x20 ≡ false → (p q r s t : Bool)
    → (b == 0x26) ≡ p → (b == 0x3C) ≡ q → (b == 0x3E) ≡ r → (b == 0x22) ≡ s → (b == 0x27) ≡ t
    → IsEscaped (b ∷ []) (cond p (codes "&amp;") (cond q (codes "&lt;") (cond r (codes "&gt;") (cond s (codes "&quot;") (cond t (codes "&apos;") (b ∷ []))))))
ascii_text b printed true q r s t e _ _ _ _ = entity_of b 0x26 (codes "&amp;") e (0, omega arith, refl)
ascii_text b printed false true r s t _ e _ _ _ = entity_of b 0x3C (codes "&lt;") e (1, omega arith, refl)
ascii_text b printed false false true s t _ _ e _ _ = entity_of b 0x3E (codes "&gt;") e (2, omega arith, refl)
ascii_text b printed false false false true t _ _ _ e _ = entity_of b 0x22 (codes "&quot;") e (3, omega arith, refl)
ascii_text b printed false false false false true _ _ _ _ e = entity_of b 0x27 (codes "&apos;") e (4, omega arith, refl)
ascii_text b printed false false false false false e1 e2 e3 e4 e5 = byte b [] [] (grind (arith, nat_tests)) nothing

one_byte : (b : ℕ) → nat_lt b 0x80 ≡ true → encode_utf8 b ≡ b ∷ []
unfolding encode_utf8
one_byte b small = grind (arith, nat_tests)

small_text : (b : ℕ) → nat_lt b 0x20 ≡ false → nat_lt b 0x7F ≡ true → IsEscaped (encode_utf8 b) (character_text b)
small_text b printed ascii =
    let small : nat_lt b 0x80 ≡ true = grind (arith, nat_tests) in
    subst (λ v. IsEscaped (encode_utf8 b) (cond v (escaped b) (encode_utf8 b))) (sym small)
    (subst (λ t. IsEscaped t (escaped b)) (sym (one_byte b small))
    (ascii_text b printed (b == 0x26) (b == 0x3C) (b == 0x3E) (b == 0x22) (b == 0x27) refl refl refl refl refl))

-- ## All

printable_text : (c : ℕ) → is_printable c ≡ true → IsEscaped (encode_utf8 c) (character_text c)
printable_text c h = elim (cases_lt c 0x80) [
  | inl low ↦ small_text c (grind (arith, nat_tests)) (grind (arith, nat_tests))
  | inr from ↦ upper_text c from
]

read_text : (o : Option ℕ) → ((c : ℕ) → o ≡ Some c → is_printable c ≡ true) → IsEscaped (encode_utf8 (unwrap_or o replacement)) (character_text (unwrap_or o replacement))
read_text None h = upper_text replacement (omega arith)
read_text (Some c) h = printable_text c (h c refl)

pub text_escaped : (set table : ℕ) (bytes : List ℕ) → IsEscaped (utf8_of set table bytes) (characters_text set table bytes)
text_escaped set table [] = nothing
text_escaped set table (b ∷ bytes) = in_turn (read_text (reads set table b) (λ c. printable set table b c)) (text_escaped set table bytes)
