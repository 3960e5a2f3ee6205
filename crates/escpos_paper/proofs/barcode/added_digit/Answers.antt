-- A content that lacks its check digit is one of digits.
use Rattle.std.proofs.Common.{◌≡◌, ℕ, ◌+◌, List, [], ◌∷◌, length, true, false, Bool, arith}
use Rattle.std.specs.Prelude.{◌==◌, if◌then◌else◌}
use Rattle.std.proofs.lemmas.Bool.Decides.{nat_tests}
use Rattle.std.proofs.lemmas.Bool.{and_parts, and_from}
use Rattle.escpos_command.specs.Barcodes.{Barcode, all_from, allows, is_digit, is_upce_first, has_length, has_form, is_content}
use Rattle.escpos_command.specs.declared.bars.Symbology.{Symbology}
use Rattle.escpos_command.specs.declared.bars.Symbology.TheVariants.{UpcA, UpcE, Ean13, Ean8}
use Rattle.escpos_paper.specs.CheckDigit.{all_digits, lacks_check_digit}
use Rattle.escpos_paper.proofs.barcode.added_digit.Goals as goal

each_digit : (place : ℕ) (bs : List ℕ) → all_from place (λ at b. is_digit b) bs ≡ true → all_digits bs ≡ true
each_digit place [] h = h
each_digit place (b ∷ bs) h =
    let both : (is_digit b ≡ true) × (all_from (place + 1) (λ at d. is_digit d) bs ≡ true) = and_parts (is_digit b) (all_from (place + 1) (λ at d. is_digit d) bs) h in
    and_from (is_digit b) (all_digits bs) both.0 (each_digit (place + 1) bs both.1)

first_digit : (n b : ℕ) → is_upce_first n b ≡ true → is_digit b ≡ true
first_digit n b h = grind (arith, nat_tests)

upce_digits : (n place : ℕ) (bs : List ℕ) → all_from place (allows UpcE n) bs ≡ true → all_digits bs ≡ true
upce_digits n place [] h = h
upce_digits n place (b ∷ bs) h =
    let both : (allows UpcE n place b ≡ true) × (all_from (place + 1) (allows UpcE n) bs ≡ true) = and_parts (allows UpcE n place b) (all_from (place + 1) (allows UpcE n) bs) h in
    and_from (is_digit b) (all_digits bs) (by_place (place == 0) both.0) (upce_digits n (place + 1) bs both.1)
  where
    by_place : (first : Bool) → (if first then is_upce_first n b else is_digit b) ≡ true → is_digit b ≡ true
    by_place true e = first_digit n b e
    by_place false e = e

lacking : (symbology : Symbology) (content : List ℕ) → lacks_check_digit symbology (length content) ≡ true
    → is_content symbology content ≡ true → all_digits content ≡ true
lacking UpcA content h k = each_digit 0 content (and_parts (has_length UpcA (length content)) (all_from 0 (λ at b. is_digit b) content) k).1
lacking UpcE content h k = upce_digits (length content) 0 content (and_parts (has_length UpcE (length content)) (all_from 0 (allows UpcE (length content)) content) k).1
lacking Ean13 content h k = each_digit 0 content (and_parts (has_length Ean13 (length content)) (all_from 0 (λ at b. is_digit b) content) k).1
lacking Ean8 content h k = each_digit 0 content (and_parts (has_length Ean8 (length content)) (all_from 0 (λ at b. is_digit b) content) k).1
lacking symbology content h k = absurd (cc)

pub check_digit_of-requires : goal.check_digit_of-requires
check_digit_of-requires c =
    let bars : Barcode = c.args.bars.now in
    let lacks : lacks_check_digit bars.symbology (length bars.content) ≡ true = cc in
    rw c.content-content.ensures.content
    (lacking bars.symbology bars.content lacks
    (and_parts (has_form bars.form bars.symbology) (is_content bars.symbology bars.content) c.content-content.ensures.range).1)
