-- Plain bitmaps are read as the format says.
use Rattle.std.proofs.Common.{◌≡◌, ℕ, ◌+◌, ◌-◌, ◌*◌, eqb, Bool, true, false, List, [], ◌∷◌, length, map, drop, get_or, if◌then◌else◌, Ok, Err, refl, sym, ap, ◌∙◌, arith}
use Rattle.std.proofs.lemmas.Bool.Decides.{nat_tests}
use Rattle.std.proofs.lemmas.List.{drop-drop, drop_at, length-drop}
use Rattle.escpos_image.specs.declared.fault.ImageFault.TheVariants.{BadSample}
use Rattle.escpos_image.specs.declared.header.Format.TheVariants.{PlainBitmap}
use Rattle.escpos_image.specs.declared.header.Layout.TheVariants.{Digits}
use Rattle.escpos_image.specs.declared.header.Header.{Header}
use Rattle.escpos_image.specs.declared.samples.Sample.{Sample}
use Rattle.escpos_image.specs.declared.scan.Number.{Number}
use Rattle.escpos_image.specs.Grays.{grays_of}
use Rattle.escpos_image.specs.Scan.{gap_length}
use Rattle.escpos_image.specs.Headers.{◌>>=◌}
use Rattle.escpos_image.specs.Samples.{sample, gray, digit_from, digit_at, laid_out_at, sample_at, gray_at, colour_at, dot_at}
use Rattle.escpos_image.specs.Pictures.{after, column_after, dots_at, picture_of}
use Rattle.escpos_image.specs.Format.{IsDigit, InTurn, IsPlainBitmap, dot_gray}
use Rattle.escpos_image.proofs.DotSteps.{first_dot}
use Rattle.escpos_image.proofs.Fields.{IsReadField, first_field, field_after, gap_then, byte_there, read_size, read_header, read_format}
use Rattle.escpos_image.proofs.RawPictures.{whole_picture}
use Rattle.escpos_image.proofs.PlainFormats.{IsReadHeader}

abbrev digit : Bool → ℕ
digit black = if black then 0x31 else 0x30

-- How light the digit's sample is.
abbrev light : Bool → ℕ
light black = if black then 0 else 1

no_gap_there : (black : Bool) (after : List ℕ) → gap_length false (digit black ∷ after) ≡ 0
no_gap_there true after = refl
no_gap_there false after = refl

digit_is_sample : (black : Bool) (start : ℕ) → (if eqb (digit black) 0x30 then Ok (sample 1 (start + 1)) else if eqb (digit black) 0x31 then Ok (sample 0 (start + 1)) else Err (BadSample start)) ≡ Ok (sample (light black) (start + 1))
digit_is_sample true start = refl
digit_is_sample false start = refl

shows : (black : Bool) → gray 1 (light black) ≡ dot_gray black
shows true = refl
shows false = refl

-- Where a digit is, and what follows it.
pub record IsReadDigit (bytes : List ℕ) (at : ℕ) (black : Bool) (after : List ℕ) : Type 0 where
  pub end : ℕ
  pub is : digit_at bytes at ≡ Ok (sample (light black) end)
  pub rest : drop end bytes ≡ after

digit_there : (bytes : List ℕ) (start : ℕ) (black : Bool) (after : List ℕ) → drop start bytes ≡ digit black ∷ after → digit_from bytes start ≡ Ok (sample (light black) (start + 1))
digit_there bytes start black after there =
    let long : length bytes - start ≡ length (digit black ∷ after) = sym (length-drop start bytes) ∙ ap length there in
    let inside : eqb start (length bytes) ≡ false = grind (arith, nat_tests) in
    let here : get_or bytes start 0 ≡ digit black = byte_there bytes start (digit black) after there in
    rw (inside, here) (digit_is_sample black start)

read_digit : (bytes : List ℕ) (at : ℕ) (black : Bool) (after : List ℕ) → IsDigit (drop at bytes) black after → IsReadDigit bytes at black after
read_digit bytes at black after h =
    let gap = h.gap in
    let start = at + length gap in
    let skipped : gap_length false (drop at bytes) ≡ length gap =
    ap (gap_length false) h.whole ∙ gap_then gap h.is_gap (digit black ∷ after) ∙ omega (arith, no_gap_there black after) in
    let there : drop start bytes ≡ digit black ∷ after =
    sym (drop-drop (length gap) at bytes) ∙ ap (drop (length gap)) h.whole ∙ drop_at gap (digit black ∷ after) (length gap) refl in
    record {
      end = start + 1;
      is = ap (λ n. digit_from bytes (at + n)) skipped ∙ digit_there bytes start black after there;
      rest = sym (drop-drop 1 start bytes) ∙ ap (drop 1) there;
    }

dot_is_read : (header : Header) (bytes : List ℕ) (at column : ℕ) (black : Bool) (rest : List ℕ) → header.layout ≡ Digits → header.is_colour ≡ false → header.maximum ≡ 1 → (d : IsReadDigit bytes at black rest) → dot_at header bytes at column ≡ Ok (sample (dot_gray black) d.end)
unfolding dot_at sample_at
dot_is_read header bytes at column black rest layout colour maximum d =
    ap (λ c. if c then colour_at header bytes at column else gray_at header bytes at column) colour
    ∙ ap (λ l. laid_out_at l header bytes at column >>= λ (s : Sample). Ok (sample (gray header.maximum s.value) s.next)) layout
    ∙ ap (λ outcome. outcome >>= λ (s : Sample). Ok (sample (gray header.maximum s.value) s.next)) d.is
    ∙ ap (λ m. Ok (sample (gray m (light black)) d.end)) maximum ∙ ap (λ g. Ok (sample g d.end)) (shows black)

dots_are_read : (header : Header) (bytes : List ℕ) (dots : List Bool) (more : List ℕ) (at column : ℕ) → header.layout ≡ Digits → header.is_colour ≡ false → header.maximum ≡ 1 → InTurn IsDigit (drop at bytes) dots more → dots_at header bytes (length dots) at column ≡ Ok (map dot_gray dots)
dots_are_read header bytes [] more at column layout colour maximum there = refl
dots_are_read header bytes (black ∷ dots) more at column layout colour maximum there =
    let d = read_digit bytes at black there.0 there.1.0 in
    first_dot header bytes (length dots) at column (sample (dot_gray black) d.end) (dot_is_read header bytes at column black there.0 layout colour maximum d)
    ∙ ap (after (dot_gray black ∷ []))
    (dots_are_read header bytes dots more d.end (column_after header.width column) layout colour maximum (rw (← d.rest) at there.1.1))

abbrev bitmap_header : ℕ → ℕ → ℕ → Header
bitmap_header width height start = record { layout = Digits; is_colour = false; width = width; height = height; maximum = 1; start = start }

abbrev number : ℕ → ℕ → ℕ → Number
number start end value = record { start = start; end = end; value = value }

fields_are_read : (bytes : List ℕ) (width height : ℕ) (dots : List Bool) (text : IsPlainBitmap bytes width height dots) (w : IsReadField bytes 2 width text.after_width) (h : IsReadField bytes w.end height text.after_height) → (start : ℕ) × IsReadHeader bytes (bitmap_header width height start) text.after_height
fields_are_read bytes width height dots text w h = (
  h.end,
  record {
    is = read_header bytes PlainBitmap (number w.start w.end width) (number h.start h.end height) (number h.end h.end 1) h.end
        (read_format bytes 0x31 text.after_magic PlainBitmap text.magic refl)
        (read_size bytes 2 (number w.start w.end width) w.reads text.has_width.positive text.has_width.small)
        (read_size bytes w.end (number h.start h.end height) h.reads text.has_height.positive text.has_height.small)
        refl refl;
    there = h.rest;
  },
)

after_width : (bytes : List ℕ) (width height : ℕ) (dots : List Bool) (text : IsPlainBitmap bytes width height dots) → IsReadField bytes 2 width text.after_width → (start : ℕ) × IsReadHeader bytes (bitmap_header width height start) text.after_height
after_width bytes width height dots text w =
    fields_are_read bytes width height dots text w (field_after bytes 2 width text.after_width w height text.after_height text.has_height)

pub plain_bitmap_is_read : (bytes : List ℕ) (width height : ℕ) (dots : List Bool) → IsPlainBitmap bytes width height dots → length dots ≡ width * height → picture_of bytes ≡ Ok (grays_of width height (map dot_gray dots))
plain_bitmap_is_read bytes width height dots text whole =
    let read = after_width bytes width height dots text (first_field bytes 0x31 text.after_magic width text.after_width text.magic text.has_width) in
    let header = bitmap_header width height read.0 in
    whole_picture bytes header (map dot_gray dots) read.1.is
    (ap (λ n. dots_at header bytes n read.0 0) (sym whole) ∙ dots_are_read header bytes dots text.more read.0 0 refl refl refl (rw read.1.there text.has_dots))
