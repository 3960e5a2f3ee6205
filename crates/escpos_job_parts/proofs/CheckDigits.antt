-- A content with a check digit is one of digits.
use Rattle.std.proofs.Common.{◌≡◌, ◌<◌, ◌≤◌, ℕ, ◌+◌, List, [], ◌∷◌, length, take, true, false, Bool, arith, zero, suc, refl}
use Rattle.std.specs.Prelude.{◌==◌, slice_index_or, if◌then◌else◌}
use Rattle.std.proofs.lemmas.Bool.{and_parts, and_from}
use Rattle.std.proofs.lemmas.Bool.Decides.{nat_tests}
use Rattle.escpos_command.specs.Barcodes.{Barcode, all_from, is_digit, is_upce_first, allows, has_length, has_form, is_content, is_barcode}
use Rattle.escpos_command.specs.declared.bars.Symbology.{Symbology}
use Rattle.escpos_command.specs.declared.bars.Symbology.TheVariants.{UpcA, UpcE, Ean13, Ean8}
use Rattle.escpos_paper.specs.CheckDigit.{all_digits}
use Rattle.escpos_job_parts.specs.Notes.{has_check_digit}

each_digit : (place : ℕ) (bs : List ℕ) → all_from place (λ at b. is_digit b) bs ≡ true → all_digits bs ≡ true
each_digit place [] h = h
each_digit place (b ∷ bs) h =
    let both : (is_digit b ≡ true) × (all_from (place + 1) (λ at d. is_digit d) bs ≡ true) = and_parts (is_digit b) (all_from (place + 1) (λ at d. is_digit d) bs) h in
    and_from (is_digit b) (all_digits bs) both.0 (each_digit (place + 1) bs both.1)

first_digit : (n b : ℕ) → is_upce_first n b ≡ true → is_digit b ≡ true
first_digit n b h = grind (arith, nat_tests)

upce_digits : (n place : ℕ) (bs : List ℕ) → all_from place (allows UpcE n) bs ≡ true → all_digits bs ≡ true
upce_digits n place [] h = h
upce_digits n place (b ∷ bs) h =
    let both : (allows UpcE n place b ≡ true) × (all_from (place + 1) (allows UpcE n) bs ≡ true) = and_parts (allows UpcE n place b) (all_from (place + 1) (allows UpcE n) bs) h in
    and_from (is_digit b) (all_digits bs) (by_place (place == 0) both.0) (upce_digits n (place + 1) bs both.1)
  where
    by_place : (first : Bool) → (if first then is_upce_first n b else is_digit b) ≡ true → is_digit b ≡ true
    by_place true e = first_digit n b e
    by_place false e = e

given : (symbology : Symbology) (content : List ℕ) → has_check_digit symbology (length content) ≡ true → is_content symbology content ≡ true → all_digits content ≡ true
given UpcA content h k = each_digit 0 content (and_parts (has_length UpcA (length content)) (all_from 0 (λ at b. is_digit b) content) k).1
given UpcE content h k = upce_digits (length content) 0 content (and_parts (has_length UpcE (length content)) (all_from 0 (allows UpcE (length content)) content) k).1
given Ean13 content h k = each_digit 0 content (and_parts (has_length Ean13 (length content)) (all_from 0 (λ at b. is_digit b) content) k).1
given Ean8 content h k = each_digit 0 content (and_parts (has_length Ean8 (length content)) (all_from 0 (λ at b. is_digit b) content) k).1
given symbology content h k = absurd (cc)

pub digits_of_bars : (bars : Barcode) → is_barcode bars ≡ true → has_check_digit bars.symbology (length bars.content) ≡ true → all_digits bars.content ≡ true
digits_of_bars bars h k = given bars.symbology bars.content k (and_parts (has_form bars.form bars.symbology) (is_content bars.symbology bars.content) h).1

-- So is a prefix of it, and each of its bytes is a digit.
pub front_digits : (n : ℕ) (bs : List ℕ) → all_digits bs ≡ true → all_digits (take n bs) ≡ true
front_digits zero bs h = refl
front_digits (suc n) [] h = refl
front_digits (suc n) (b ∷ bs) h =
    let both : (is_digit b ≡ true) × (all_digits bs ≡ true) = and_parts (is_digit b) (all_digits bs) h in
    and_from (is_digit b) (all_digits (take n bs)) both.0 (front_digits n bs both.1)

digit_is_large : (b : ℕ) → is_digit b ≡ true → 48 ≤ b
digit_is_large b h = grind (arith, nat_tests)

pub each_is_large : (bs : List ℕ) (at : ℕ) → all_digits bs ≡ true → at < length bs → 48 ≤ slice_index_or bs at 0
each_is_large [] at h inside = absurd (omega arith)
each_is_large (b ∷ bs) zero h inside = digit_is_large b (and_parts (is_digit b) (all_digits bs) h).0
each_is_large (b ∷ bs) (suc at) h inside = each_is_large bs at (and_parts (is_digit b) (all_digits bs) h).1 (omega arith)

pub some_digits : (symbology : Symbology) (n : ℕ) → has_check_digit symbology n ≡ true → 0 < n
some_digits UpcA n h = grind (arith, nat_tests)
some_digits UpcE n h = grind (arith, nat_tests)
some_digits Ean13 n h = grind (arith, nat_tests)
some_digits Ean8 n h = grind (arith, nat_tests)
some_digits symbology n h = absurd (cc)
