-- The fields of a header are read as the format says.
use Rattle.std.proofs.Common.{◌≡◌, ℕ, suc, ◌+◌, ◌-◌, ◌<◌, ◌≤◌, min, eqb, leb, true, false, List, [], ◌∷◌, ◌++◌, length, take, drop, get_or, if◌then◌else◌, Some, Ok, Err, refl, sym, ap, ◌∙◌, append_assoc, length-append, arith}
use Rattle.std.specs.List.{All, AllPass, prefix_len}
use Rattle.std.proofs.lemmas.Bool.Decides.{nat_tests}
use Rattle.std.proofs.lemmas.List.{drop-drop, drop_at, take_at, length-drop, get_or-drop}
use Rattle.escpos_image.specs.declared.scan.TheConstants.{TOO_GREAT}
use Rattle.escpos_image.specs.Scan.{is_blank, ends_line, is_digit, gap_length, number_at}
use Rattle.escpos_image.specs.declared.fault.ImageFault.TheVariants.{BadSize, BadMaximum}
use Rattle.escpos_image.specs.declared.header.TheConstants.{GREATEST}
use Rattle.escpos_image.specs.declared.header.Format.{Format}
use Rattle.escpos_image.specs.declared.scan.Number.{Number}
use Rattle.escpos_image.specs.Headers.{◌>>=◌, field, field_at, is_in_range, size_at, maximum_at, samples_start, has_maximum, is_plain, format_of, format_numbered, header, header_of}
use Rattle.escpos_image.specs.Format.{IsGap, no_gap, blank, comment, IsNumber, IsField}

blank_no_comment : (b : ℕ) → is_blank b ≡ true → eqb b 0x23 ≡ false
blank_no_comment b h = grind (arith, nat_tests)

digit_no_comment : (b : ℕ) → is_digit b ≡ true → eqb b 0x23 ≡ false
digit_no_comment b h = grind (arith, nat_tests)

digit_no_blank : (b : ℕ) → is_digit b ≡ true → is_blank b ≡ false
digit_no_blank b h = grind (arith, nat_tests)

pub first_of_all : {X : Type 0} (P : X → Type 0) (x : X) (xs : List X) → All P (x ∷ xs) → P x
first_of_all P x xs h = h 0 x (omega arith)

pub others_of_all : {X : Type 0} (P : X → Type 0) (x : X) (xs : List X) → All P (x ∷ xs) → All P xs
others_of_all P x xs h k d inside = h (suc k) d (omega arith)

in_comment : (text : List ℕ) (end : ℕ) (rest : List ℕ) → All (λ c. ends_line c ≡ false) text → ends_line end ≡ true → gap_length true (text ++ end ∷ rest) ≡ length text + 1 + gap_length false rest
in_comment [] end rest none ends = rw ends (omega arith)
in_comment (c ∷ text) end rest inside ends =
    let c_is : ends_line c ≡ false = first_of_all (λ c. ends_line c ≡ false) c text inside in
    rw c_is (omega (arith, in_comment text end rest (others_of_all (λ c. ends_line c ≡ false) c text inside) ends))

-- A gap, and then what the rest begins with.
pub gap_then : (gap : List ℕ) → IsGap gap → (rest : List ℕ) → gap_length false (gap ++ rest) ≡ length gap + gap_length false rest
gap_then _ no_gap rest = omega arith
gap_then _ (blank b more is h) rest = rw (blank_no_comment b is, is) (omega (arith, gap_then more h rest))
gap_then _ (comment text end more inside ends h) rest =
    let joined : text ++ end ∷ more ++ rest ≡ text ++ end ∷ (more ++ rest) = append_assoc text (end ∷ more) rest in
    let long : length (text ++ end ∷ more) ≡ length text + suc (length more) = length-append text (end ∷ more) in
    rw (joined, long) (omega (arith, in_comment text end (more ++ rest) inside ends, gap_then more h rest))

-- A digit ends a gap.
no_gap_at_digit : (digits after : List ℕ) → AllPass is_digit digits → 0 < length digits → gap_length false (digits ++ after) ≡ 0
no_gap_at_digit [] after are some = absurd (omega arith)
no_gap_at_digit (d ∷ digits) after are some =
    let d_is : is_digit d ≡ true = first_of_all (λ d. is_digit d ≡ true) d digits are in
    rw (digit_no_comment d d_is, digit_no_blank d d_is)

all_digits : (digits after : List ℕ) → AllPass is_digit digits → prefix_len is_digit after ≡ 0 → prefix_len is_digit (digits ++ after) ≡ length digits
all_digits [] after are ended = ended
all_digits (d ∷ digits) after are ended =
    let d_is : is_digit d ≡ true = first_of_all (λ d. is_digit d ≡ true) d digits are in
    rw d_is (omega (arith, all_digits digits after (others_of_all (λ d. is_digit d ≡ true) d digits are) ended))

-- The first byte of what is left.
pub byte_there : (bytes : List ℕ) (at b : ℕ) (after : List ℕ) → drop at bytes ≡ b ∷ after → get_or bytes at 0 ≡ b
byte_there bytes at b after there =
    let e : at ≡ at + 0 = omega arith in
    ap (λ k. get_or bytes k 0) e ∙ sym (get_or-drop at bytes 0 0) ∙ ap (λ xs. get_or xs 0 0) there

-- Where the number's digits begin and where they end.
pub record IsReadNumber (bytes : List ℕ) (at value : ℕ) (after : List ℕ) : Type 0 where
  pub start : ℕ
  pub end : ℕ
  pub is : number_at bytes at ≡ record { start = start; end = end; value = value }
  pub later : at < start
  pub some : start < end
  pub rest : drop end bytes ≡ after
  pub within : end ≤ length bytes

pub read_number : (bytes : List ℕ) (at value : ℕ) (after : List ℕ) → IsNumber (drop at bytes) value after → value ≤ GREATEST → IsReadNumber bytes at value after
read_number bytes at value after h few =
    let gap = h.gap in
    let digits = h.digits in
    let start = at + length gap in
    let skipped : gap_length false (drop at bytes) ≡ length gap =
    ap (gap_length false) h.whole ∙ gap_then gap h.is_gap (digits ++ after)
    ∙ omega (arith, no_gap_at_digit digits after h.are_digits h.some_digits) in
    let there : drop start bytes ≡ digits ++ after =
    sym (drop-drop (length gap) at bytes) ∙ ap (drop (length gap)) h.whole ∙ drop_at gap (digits ++ after) (length gap) refl in
    let count : prefix_len is_digit (digits ++ after) ≡ length digits = all_digits digits after h.are_digits h.ended in
    let taken : take (length digits) (digits ++ after) ≡ digits = take_at digits after (length digits) refl in
    let small : min TOO_GREAT value ≡ value = omega (arith, few) in
    let long : length bytes - start ≡ length digits + length after = sym (length-drop start bytes) ∙ ap length there ∙ length-append digits after in
    let some_gap = h.some_gap in
    let some_digits = h.some_digits in
    record {
      start = start;
      end = start + length digits;
      is = rw (skipped, there, count, taken, h.is_value, small);
      later = omega arith;
      some = omega arith;
      rest = sym (drop-drop (length digits) start bytes) ∙ ap (drop (length digits)) there ∙ drop_at digits after (length digits) refl;
      within = omega arith;
    }

-- A number that is read as a field of the header.
pub record IsReadField (bytes : List ℕ) (at value : ℕ) (after : List ℕ) : Type 0 where
  pub start : ℕ
  pub end : ℕ
  pub reads : field_at bytes at ≡ Ok (record { start = start; end = end; value = value })
  pub rest : drop end bytes ≡ after

is_field : (last at start end value : ℕ) → start < last → at < start → start < end → field last at (record { start = start; end = end; value = value }) ≡ Ok (record { start = start; end = end; value = value })
is_field last at start end value inside later some =
    let a : eqb start last ≡ false = grind (arith, nat_tests) in
    let b : eqb start at ≡ false = grind (arith, nat_tests) in
    let c : eqb end start ≡ false = grind (arith, nat_tests) in
    rw (a, b, c)

field_of_number : (bytes : List ℕ) (at value : ℕ) (after : List ℕ) → IsReadNumber bytes at value after → IsReadField bytes at value after
field_of_number bytes at value after n =
    record {
      start = n.start;
      end = n.end;
      reads = ap (field (length bytes) at) n.is ∙ is_field (length bytes) at n.start n.end value (omega (arith, n.some, n.within)) n.later n.some;
      rest = n.rest;
    }

pub read_field : (bytes : List ℕ) (at value : ℕ) (after : List ℕ) → IsField (drop at bytes) value after → IsReadField bytes at value after
read_field bytes at value after h = field_of_number bytes at value after (read_number bytes at value after h.number h.small)

in_range : (n : ℕ) → 1 ≤ n → n ≤ GREATEST → is_in_range n ≡ true
in_range n least most = grind (arith, nat_tests)

-- A field is a size.
pub read_size : (bytes : List ℕ) (at : ℕ) (n : Number) → field_at bytes at ≡ Ok n → 1 ≤ n.value → n.value ≤ GREATEST → size_at bytes at ≡ Ok n
read_size bytes at n is least most =
    ap (λ outcome. outcome >>= λ (number : Number). if is_in_range number.value then Ok number else Err (BadSize number.start)) is
    ∙ ap (λ b. if b then Ok n else Err (BadSize n.start)) (in_range n.value least most)

-- A field is a greatest value.
pub read_maximum : (format : Format) (bytes : List ℕ) (at : ℕ) (n : Number) → has_maximum format ≡ true → field_at bytes at ≡ Ok n → 1 ≤ n.value → n.value ≤ GREATEST → maximum_at format bytes at ≡ Ok n
read_maximum format bytes at n has is least most =
    rw has (ap (λ outcome. outcome >>= λ (number : Number). if is_in_range number.value then Ok number else Err (BadMaximum number.start)) is
    ∙ ap (λ b. if b then Ok n else Err (BadMaximum n.start)) (in_range n.value least most))

-- One blank comes before raw samples.
pub read_start : (format : Format) (bytes : List ℕ) (at b : ℕ) (after : List ℕ) → is_plain format ≡ false → drop at bytes ≡ b ∷ after → is_blank b ≡ true → samples_start format bytes at ≡ Ok (at + 1)
read_start format bytes at b after raw there is =
    let long : length bytes - at ≡ length (b ∷ after) = sym (length-drop at bytes) ∙ ap length there in
    let inside : eqb at (length bytes) ≡ false = grind (arith, nat_tests) in
    let here : get_or bytes at 0 ≡ b = byte_there bytes at b after there in
    rw (raw, inside, here, is)

-- The header of a picture whose parts are read.
pub read_header : (bytes : List ℕ) (format : Format) (width height maximum : Number) (start : ℕ) → format_of bytes ≡ Some format → size_at bytes 2 ≡ Ok width → size_at bytes width.end ≡ Ok height → maximum_at format bytes height.end ≡ Ok maximum → samples_start format bytes maximum.end ≡ Ok start → header_of bytes ≡ Ok (header format width height maximum start)
read_header bytes format width height maximum start f w h m s = rw (f, w, h, m, s)

-- The format that the first two bytes name.
pub read_format : (bytes : List ℕ) (digit : ℕ) (after : List ℕ) (format : Format) → bytes ≡ 0x50 ∷ digit ∷ after → format_numbered digit ≡ Some format → format_of bytes ≡ Some format
read_format bytes digit after format is named =
    let long : leb 2 (length (0x50 ∷ digit ∷ after)) ≡ true = grind (arith, nat_tests) in
    rw (is, long, named)

-- The field after one that is read.
pub field_after : (bytes : List ℕ) (at value : ℕ) (rest : List ℕ) (before : IsReadField bytes at value rest) (next : ℕ) (after : List ℕ) → IsField rest next after → IsReadField bytes before.end next after
field_after bytes at value rest before next after field = read_field bytes before.end next after (rw (← before.rest) at field)

-- The field after the two bytes that name the format.
pub first_field : (bytes : List ℕ) (digit : ℕ) (rest : List ℕ) (value : ℕ) (after : List ℕ) → bytes ≡ 0x50 ∷ digit ∷ rest → IsField rest value after → IsReadField bytes 2 value after
first_field bytes digit rest value after magic field = let e : rest ≡ drop 2 bytes = sym (ap (drop 2) magic) in read_field bytes 2 value after (rw e at field)
