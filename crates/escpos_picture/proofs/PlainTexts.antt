-- Characters that stand in a text as they are, between others.
use Rattle.std.proofs.Common.{◌≡◌, ◌≤◌, Some, ℕ, List, [], ◌∷◌, ◌++◌, refl, sym, ◌∙◌, ap, take, drop, true, arith}
use Rattle.std.specs.List.{list_all}
use Rattle.std.proofs.lemmas.Bool.Decides.{nat_tests}
use Rattle.std.proofs.lemmas.Grind.{flat_map-append}
use Rattle.escpos_picture.proofs.Escaping.{both}
use Rattle.std.proofs.lemmas.List.{take-append-drop}
use Rattle.std.specs.Option.{unwrap_or}
use Rattle.escpos_text.specs.Reading.{reads}
use Rattle.escpos_text.proofs.PlainWriting.{ascii-read}
use Rattle.escpos_picture.specs.Characters.{byte_text, character_text, replacement, stands_as_it_is}
use Rattle.escpos_picture.specs.Rows.{characters_text}

from_20 : (b : ℕ) → stands_as_it_is b ≡ true → 0x20 ≤ b
from_20 b plain = grind (arith, nat_tests)

to_7E : (b : ℕ) → stands_as_it_is b ≡ true → b ≤ 0x7E
to_7E b plain = grind (arith, nat_tests)

own_text : (b : ℕ) → stands_as_it_is b ≡ true → character_text b ≡ b ∷ []
own_text b plain = grind (arith, nat_tests)

-- Such a byte is its own text.
as_it_is : (b : ℕ) → stands_as_it_is b ≡ true → byte_text 0 0 b ≡ b ∷ []
as_it_is b plain =
    let read : reads 0 0 b ≡ Some b = ascii-read 0 b (from_20 b plain) (to_7E b plain) in
    ap (λ o. character_text (unwrap_or o replacement)) read ∙ own_text b plain

all_as_they_are : (bs : List ℕ) → list_all stands_as_it_is bs ≡ true → characters_text 0 0 bs ≡ bs
all_as_they_are [] plain = refl
all_as_they_are (b ∷ bs) plain =
    let parts = both (stands_as_it_is b) (list_all stands_as_it_is bs) plain in
    ap (λ t. t ++ characters_text 0 0 bs) (as_it_is b parts.0) ∙ ap (λ t. (b ∷ []) ++ t) (all_as_they_are bs parts.1)

-- Bytes that stand as they are, and all others.
pub in_two : (count : ℕ) (bs : List ℕ) → list_all stands_as_it_is (take count bs) ≡ true
    → characters_text 0 0 bs ≡ take count bs ++ characters_text 0 0 (drop count bs)
in_two count bs plain =
    ap (characters_text 0 0) (sym (take-append-drop count bs))
    ∙ flat_map-append (byte_text 0 0) (take count bs) (drop count bs)
    ∙ ap (λ t. t ++ characters_text 0 0 (drop count bs)) (all_as_they_are (take count bs) plain)

-- The first character, and all others.
pub first_and_others : (bs : List ℕ) → characters_text 0 0 bs ≡ characters_text 0 0 (take 1 bs) ++ characters_text 0 0 (drop 1 bs)
first_and_others bs = ap (characters_text 0 0) (sym (take-append-drop 1 bs)) ∙ flat_map-append (byte_text 0 0) (take 1 bs) (drop 1 bs)
