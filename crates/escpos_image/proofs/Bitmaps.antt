-- Raw bitmaps are read as the format says: each dot is its bit.
use Rattle.std.proofs.Common.{◌≡◌, ℕ, zero, suc, ◌+◌, ◌-◌, ◌/◌, ◌<◌, ◌≤◌, eqb, cond, Bool, true, false, List, [], ◌∷◌, ◌++◌, length, map, drop, get_or, if◌then◌else◌, Result, Ok, Err, refl, sym, ap, ◌∙◌, append_assoc, length-append, arith}
use Rattle.std.proofs.lemmas.Bool.Decides.{nat_tests}
use Rattle.std.proofs.lemmas.List.{drop_more, drop_all, length-drop, get_or-drop, get_or_append_left}
use Rattle.std.proofs.lemmas.List.FromFn.{get_or-map-range_with_len, length-map-range_with_len}
use Rattle.escpos_image.specs.declared.fault.ImageFault.{ImageFault}
use Rattle.escpos_image.specs.declared.fault.ImageFault.TheVariants.{CutShort}
use Rattle.escpos_image.specs.declared.header.Layout.TheVariants.{Bits}
use Rattle.escpos_image.specs.declared.header.Header.{Header}
use Rattle.escpos_image.specs.declared.samples.Sample.{Sample}
use Rattle.escpos_image.specs.Headers.{◌>>=◌}
use Rattle.escpos_image.specs.Samples.{sample, gray, bit_of, after_bit, bit_at, laid_out_at, sample_at, gray_at, colour_at, dot_at}
use Rattle.escpos_image.specs.Pictures.{after, column_after, dots_at}
use Rattle.escpos_image.specs.Packing.{bit, row_bytes, packed_byte, row_packed}
use Rattle.escpos_image.specs.Format.{dot_gray}
use Rattle.escpos_image.proofs.DotSteps.{first_dot}
use Rattle.escpos_image.proofs.PackedRows.{dot_is_bit}

-- A header of a raw bitmap of this width.
pub record IsOfBitmap (header : Header) (dots : ℕ) : Type 0 where
  pub layout : header.layout ≡ Bits
  pub colour : header.is_colour ≡ false
  pub maximum : header.maximum ≡ 1
  pub wide : header.width ≡ dots

-- The bytes of a row stand at this place.
pub record IsRowAt (bytes : List ℕ) (place : ℕ) (row : List Bool) : Type 0 where
  pub inside : (k : ℕ) → k < row_bytes (length row) → place + k < length bytes
  pub is : (k : ℕ) → k < row_bytes (length row) → get_or bytes (place + k) 0 ≡ packed_byte row k

shows : (black : Bool) → gray 1 (1 - cond black 1 0) ≡ dot_gray black
shows true = refl
shows false = refl

after_both : (xs ys : List ℕ) (r : Result (List ℕ) ImageFault) → after xs (after ys r) ≡ after (xs ++ ys) r
after_both xs ys (Ok zs) = ap Ok (sym (append_assoc xs ys zs))
after_both xs ys (Err fault) = refl

bit_is_read : (width : ℕ) (bytes : List ℕ) (place i : ℕ) (row : List Bool) → i < length row → IsRowAt bytes place row → bit_at width bytes (place + i / 8) i ≡ Ok (sample (1 - bit row i) (after_bit width (place + i / 8) i))
bit_is_read width bytes place i row inside there =
    let k : i / 8 < row_bytes (length row) = omega arith in
    let within = there.inside (i / 8) k in
    let at_end : eqb (place + i / 8) (length bytes) ≡ false = grind (arith, nat_tests) in
    let is : bit_of (get_or bytes (place + i / 8) 0) i ≡ bit row i = ap (λ byte. bit_of byte i) (there.is (i / 8) k) ∙ dot_is_bit row i in
    ap (λ b. if b then Err (CutShort (place + i / 8)) else Ok (sample (1 - bit_of (get_or bytes (place + i / 8) 0) i) (after_bit width (place + i / 8) i))) at_end
    ∙ ap (λ v. Ok (sample (1 - v) (after_bit width (place + i / 8) i))) is

dot_is_read : (header : Header) (bytes : List ℕ) (place i : ℕ) (row : List Bool) → IsOfBitmap header (length row) → i < length row → IsRowAt bytes place row → dot_at header bytes (place + i / 8) i ≡ Ok (sample (dot_gray (get_or row i false)) (after_bit (length row) (place + i / 8) i))
unfolding dot_at sample_at
dot_is_read header bytes place i row h inside there =
    let at = place + i / 8 in
    ap (λ c. if c then colour_at header bytes at i else gray_at header bytes at i) h.colour
    ∙ ap (λ l. laid_out_at l header bytes at i >>= λ (s : Sample). Ok (sample (gray header.maximum s.value) s.next)) h.layout
    ∙ ap (λ w. bit_at w bytes at i >>= λ (s : Sample). Ok (sample (gray header.maximum s.value) s.next)) h.wide
    ∙ ap (λ outcome. outcome >>= λ (s : Sample). Ok (sample (gray header.maximum s.value) s.next)) (bit_is_read (length row) bytes place i row inside there)
    ∙ ap (λ m. Ok (sample (gray m (1 - bit row i)) (after_bit (length row) at i))) h.maximum
    ∙ ap (λ g. Ok (sample g (after_bit (length row) at i))) (shows (get_or row i false))

next_place : (width place i : ℕ) → i + 1 < width → after_bit width (place + i / 8) i ≡ place + (i + 1) / 8
next_place width place i more = grind (arith, nat_tests)

last_place : (width place i : ℕ) → i + 1 ≡ width → after_bit width (place + i / 8) i ≡ place + row_bytes width
last_place width place i last = grind (arith, nat_tests)

next_column : (width i : ℕ) → i + 1 < width → column_after width i ≡ i + 1
next_column width i more = grind (arith, nat_tests)

last_column : (width i : ℕ) → i + 1 ≡ width → column_after width i ≡ 0
last_column width i last = grind (arith, nat_tests)

-- The rest of a row, and what comes after it.
row_is_read : (left : ℕ) (header : Header) (bytes : List ℕ) (place i count : ℕ) (row : List Bool) → i + suc left ≡ length row → IsOfBitmap header (length row) → IsRowAt bytes place row → dots_at header bytes (suc left + count) (place + i / 8) i ≡ after (map dot_gray (drop i row)) (dots_at header bytes count (place + row_bytes (length row)) 0)
row_is_read zero header bytes place i count row last h there =
    let inside : i < length row = omega arith in
    let one : i + 1 ≡ length row = omega arith in
    let n : suc zero + count ≡ suc count = omega arith in
    let dot = sample (dot_gray (get_or row i false)) (after_bit (length row) (place + i / 8) i) in
    let column : column_after header.width i ≡ 0 = ap (λ w. column_after w i) h.wide ∙ last_column (length row) i one in
    let rest : drop i row ≡ get_or row i false ∷ [] = drop_more row i false inside ∙ ap (λ xs. get_or row i false ∷ xs) (drop_all (i + 1) row (omega arith)) in
    ap (λ k. dots_at header bytes k (place + i / 8) i) n
    ∙ first_dot header bytes count (place + i / 8) i dot (dot_is_read header bytes place i row h inside there)
    ∙ ap (λ k. after (dot.value ∷ []) (dots_at header bytes count k (column_after header.width i))) (last_place (length row) place i one)
    ∙ ap (λ k. after (dot.value ∷ []) (dots_at header bytes count (place + row_bytes (length row)) k)) column
    ∙ ap (λ xs. after (map dot_gray xs) (dots_at header bytes count (place + row_bytes (length row)) 0)) (sym rest)
row_is_read (suc left) header bytes place i count row more h there =
    let inside : i < length row = omega arith in
    let further : i + 1 < length row = omega arith in
    let later : i + 1 + suc left ≡ length row = omega arith in
    let n : suc (suc left) + count ≡ suc (suc left + count) = omega arith in
    let dot = sample (dot_gray (get_or row i false)) (after_bit (length row) (place + i / 8) i) in
    let column : column_after header.width i ≡ i + 1 = ap (λ w. column_after w i) h.wide ∙ next_column (length row) i further in
    let rest : drop i row ≡ get_or row i false ∷ drop (i + 1) row = drop_more row i false inside in
    let below = dots_at header bytes count (place + row_bytes (length row)) 0 in
    ap (λ k. dots_at header bytes k (place + i / 8) i) n
    ∙ first_dot header bytes (suc left + count) (place + i / 8) i dot (dot_is_read header bytes place i row h inside there)
    ∙ ap (λ k. after (dot.value ∷ []) (dots_at header bytes (suc left + count) k (column_after header.width i))) (next_place (length row) place i further)
    ∙ ap (λ k. after (dot.value ∷ []) (dots_at header bytes (suc left + count) (place + (i + 1) / 8) k)) column
    ∙ ap (after (dot.value ∷ [])) (row_is_read left header bytes place (i + 1) count row later h there)
    ∙ after_both (dot.value ∷ []) (map dot_gray (drop (i + 1) row)) below ∙ ap (λ xs. after (map dot_gray xs) below) (sym rest)

-- The bytes of a row, and others after them.
row_at : (bytes : List ℕ) (place : ℕ) (row : List Bool) (rest : List ℕ) → drop place bytes ≡ row_packed row (row_bytes (length row)) ++ rest → IsRowAt bytes place row
row_at bytes place row rest there =
    let count = row_bytes (length row) in
    let packed = row_packed row count in
    let long : length packed ≡ count = length-map-range_with_len (packed_byte row) 0 count in
    let all : length bytes - place ≡ count + length rest = sym (length-drop place bytes) ∙ ap length there ∙ length-append packed rest ∙ ap (λ n. n + length rest) long in
    record {
      inside = λ k h. omega arith;
      is = λ k h.
          let here : k < length packed = omega arith in
          sym (get_or-drop place bytes k 0) ∙ ap (λ xs. get_or xs k 0) there ∙ get_or_append_left packed rest 0 k here
          ∙ get_or-map-range_with_len (packed_byte row) 0 count k k 0 h (omega arith);
    }

-- A whole row.
pub whole_row_is_read : (header : Header) (bytes : List ℕ) (place count : ℕ) (row : List Bool) (rest : List ℕ) → 1 ≤ length row → IsOfBitmap header (length row) → drop place bytes ≡ row_packed row (row_bytes (length row)) ++ rest → dots_at header bytes (length row + count) place 0 ≡ after (map dot_gray row) (dots_at header bytes count (place + row_bytes (length row)) 0)
whole_row_is_read header bytes place count row rest some h there =
    let n : length row ≡ suc (length row - 1) = omega arith in
    let all : 0 + suc (length row - 1) ≡ length row = omega arith in
    let at : place ≡ place + 0 / 8 = omega arith in
    ap (λ k. dots_at header bytes (k + count) place 0) n ∙ ap (λ k. dots_at header bytes (suc (length row - 1) + count) k 0) at
    ∙ row_is_read (length row - 1) header bytes place 0 count row all h (row_at bytes place row rest there)
