-- The last line of a listing has no character that means something in a document, but for its line end.
use Rattle.std.proofs.Common.{◌≡◌, ℕ, ◌<◌, ◌≤◌, ◌^◌, List, [], ◌∷◌, ◌++◌, refl, ◌∙◌, append_assoc, arith, Bool, true, false}
use Rattle.std.specs.Prelude.{codes, decimal, IsTrue, nat_le, not, ◌&&◌, ◌||◌}
use Rattle.std.specs.List.{list_all}
use Rattle.std.specs.Fmt.{digits}
use Rattle.std.specs.Str.Parse.{AllDigits}
use Rattle.std.proofs.lemmas.Bool.{and_from, le-leb, agree_below, agree_below_at}
use Rattle.std.proofs.lemmas.Fmt.{decimal_is_IsNumeral}
use Rattle.std.proofs.lemmas.List.Folds.{list_all-append}
use Rattle.std.proofs.lemmas.Str.Parse.{tells_digits}
use Rattle.escpos_command.specs.declared.fault.FaultReason.{FaultReason}
use Rattle.escpos_command.specs.declared.fault.FaultReason.TheVariants.{UnknownByte, UnknownCommand, BadParameter, BadBarcode, BadSize}
use Rattle.escpos_command.specs.Places.{reason_number, reason_name}
use Rattle.escpos_picture.specs.Escaping.{is_plain}
use Rattle.escpos_job_parts.specs.Lines.{end_line, fault_line}
use Rattle.escpos_stream_jobs.specs.Draw.{some_words}

plain_in_range : ℕ → Bool
plain_in_range b = not (nat_le 48 b && nat_le b 57) || is_plain b

all_in_range : agree_below plain_in_range (λ b. true) 128 ≡ true
unfolding plain_in_range
all_in_range = refl

from_premise : (x y : Bool) → x ≡ true → (not x || y) ≡ true → y ≡ true
from_premise true y is h = h
from_premise false y is h = absurd cc

plain_digit : (b : ℕ) → 48 ≤ b → b ≤ 57 → is_plain b ≡ true
unfolding plain_in_range
plain_digit b low high =
    from_premise (nat_le 48 b && nat_le b 57) (is_plain b) (and_from (nat_le 48 b) (nat_le b 57) (le-leb 48 b low) (le-leb b 57 high))
    (agree_below_at plain_in_range (λ c. true) 128 b all_in_range (omega (arith, high)))

plain_digits : (ds : List ℕ) → AllDigits 10 ds → list_all is_plain ds ≡ true
plain_digits [] h = refl
plain_digits (d ∷ ds) h =
    let parts = tells_digits.parts d ds h in
    and_from (is_plain d) (list_all is_plain ds) (plain_digit d parts.0.0 parts.0.1) (plain_digits ds parts.1)

plain_number : (n : ℕ) → n < 2 ^ 64 → list_all is_plain (decimal n) ≡ true
plain_number n few = plain_digits (decimal n) (decimal_is_IsNumeral n few).0.1

joined : (xs ys : List ℕ) → list_all is_plain xs ≡ true → list_all is_plain ys ≡ true → list_all is_plain (xs ++ ys) ≡ true
joined xs ys h k = list_all-append is_plain xs ys ∙ and_from (list_all is_plain xs) (list_all is_plain ys) h k

pub plain_end : (count half : ℕ) → count < 2 ^ 64 → half < 2 ^ 64
    → (text : List ℕ) × (end_line count half ≡ text ++ codes "\n") × IsTrue (list_all is_plain text)
plain_end count half few fewer = (
  codes "end " ++ decimal count ++ codes " pending " ++ decimal half,
  refl,
  joined (codes "end " ++ decimal count ++ codes " pending ") (decimal half)
      (joined (codes "end " ++ decimal count) (codes " pending ") (joined (codes "end ") (decimal count) refl (plain_number count few)) refl)
      (plain_number half fewer),
)

plain_name : (why : FaultReason) → list_all is_plain (codes " " ++ decimal (reason_number why) ++ codes " " ++ reason_name why) ≡ true
unfolding digits
plain_name UnknownByte = refl
plain_name UnknownCommand = refl
plain_name BadParameter = refl
plain_name BadBarcode = refl
plain_name BadSize = refl

apart : (start number middle reason space name end : List ℕ)
    → start ++ number ++ middle ++ reason ++ space ++ name ++ end ≡ (start ++ number ++ (middle ++ reason ++ space ++ name)) ++ end
apart start number middle reason space name end = simp append_assoc

pub plain_fault : (place : ℕ) (why : FaultReason) → place < 2 ^ 64
    → (text : List ℕ) × (fault_line place why ≡ text ++ codes "\n") × IsTrue (list_all is_plain text)
plain_fault place why few = (
  codes "fault " ++ decimal place ++ (codes " " ++ decimal (reason_number why) ++ codes " " ++ reason_name why),
  apart (codes "fault ") (decimal place) (codes " ") (decimal (reason_number why)) (codes " ") (reason_name why) (codes "\n"),
  joined (codes "fault " ++ decimal place) (codes " " ++ decimal (reason_number why) ++ codes " " ++ reason_name why)
      (joined (codes "fault ") (decimal place) refl (plain_number place few)) (plain_name why),
)

words_apart : (start number words end : List ℕ) → start ++ number ++ (words ++ end) ≡ start ++ number ++ words ++ end
words_apart start number words end = simp append_assoc

pub plain_words : (n : ℕ) → n < 2 ^ 64 → (text : List ℕ) × (some_words n ≡ text ++ codes "\n") × IsTrue (list_all is_plain text)
plain_words n few = (
  codes "passed " ++ decimal n ++ codes ": the paper may differ",
  words_apart (codes "passed ") (decimal n) (codes ": the paper may differ") (codes "\n"),
  joined (codes "passed " ++ decimal n) (codes ": the paper may differ") (joined (codes "passed ") (decimal n) refl (plain_number n few)) refl,
)
