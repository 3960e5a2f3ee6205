-- Plain pictures are read as the formats say.
use Rattle.std.proofs.Common.{◌≡◌, ℕ, ◌*◌, ◌<◌, ◌≤◌, eqb, ltb, true, false, List, [], ◌∷◌, length, map, flat_map, drop, if◌then◌else◌, Some, Ok, refl, sym, ap, ◌∙◌, arith}
use Rattle.std.specs.List.{All}
use Rattle.std.proofs.lemmas.Bool.Decides.{nat_tests}
use Rattle.escpos_image.specs.declared.header.TheConstants.{GREATEST}
use Rattle.escpos_image.specs.declared.header.Format.{Format}
use Rattle.escpos_image.specs.declared.header.Format.TheVariants.{PlainGray, PlainColour}
use Rattle.escpos_image.specs.declared.header.Layout.TheVariants.{Numbers}
use Rattle.escpos_image.specs.declared.header.Header.{Header}
use Rattle.escpos_image.specs.declared.samples.TheConstants.{ALL_COLOURS}
use Rattle.escpos_image.specs.declared.samples.Sample.{Sample}
use Rattle.escpos_image.specs.declared.scan.Number.{Number}
use Rattle.escpos_image.specs.Grays.{grays_of}
use Rattle.escpos_image.specs.Headers.{◌>>=◌, has_maximum, is_plain, format_numbered, header_of}
use Rattle.escpos_image.specs.Samples.{sample, gray, luma, plain, laid_out_at, sample_at, gray_at, colour_at, dot_at}
use Rattle.escpos_image.specs.Pictures.{after, column_after, dots_at, picture_of}
use Rattle.escpos_image.specs.Format.{IsNumber, InTurn, IsPlain, Colour, IsColour, three_samples, colour_gray}
use Rattle.escpos_image.proofs.DotSteps.{first_dot}
use Rattle.escpos_image.proofs.Fields.{IsReadNumber, IsReadField, read_number, first_field, field_after, first_of_all, others_of_all, read_size, read_maximum, read_header, read_format}
use Rattle.escpos_image.proofs.RawPictures.{raw_header, whole_picture}

-- The sample in a number.
is_sample : (maximum last at start end value : ℕ) → start < last → at < start → start < end → value ≤ maximum → plain maximum last at (record { start = start; end = end; value = value }) ≡ Ok (sample value end)
is_sample maximum last at start end value inside later some few =
    let a : eqb start last ≡ false = grind (arith, nat_tests) in
    let b : eqb start at ≡ false = grind (arith, nat_tests) in
    let c : eqb end start ≡ false = grind (arith, nat_tests) in
    let d : ltb maximum value ≡ false = grind (arith, nat_tests) in
    rw (a, b, c, d)

sample_is_read : (header : Header) (bytes : List ℕ) (at column value : ℕ) (rest : List ℕ) → header.layout ≡ Numbers → (n : IsReadNumber bytes at value rest) → value ≤ header.maximum → sample_at header bytes at column ≡ Ok (sample value n.end)
unfolding sample_at
sample_is_read header bytes at column value rest layout n few =
    ap (λ l. laid_out_at l header bytes at column) layout
    ∙ ap (plain header.maximum (length bytes) at) n.is
    ∙ is_sample header.maximum (length bytes) at n.start n.end value (omega (arith, n.some, n.within)) n.later n.some few

dot_is_read : (header : Header) (bytes : List ℕ) (at column value : ℕ) (rest : List ℕ) → header.layout ≡ Numbers → header.is_colour ≡ false → (n : IsReadNumber bytes at value rest) → value ≤ header.maximum → dot_at header bytes at column ≡ Ok (sample (gray header.maximum value) n.end)
unfolding dot_at
dot_is_read header bytes at column value rest layout colour n few =
    ap (λ c. if c then colour_at header bytes at column else gray_at header bytes at column) colour
    ∙ ap (λ outcome. outcome >>= λ (s : Sample). Ok (sample (gray header.maximum s.value) s.next)) (sample_is_read header bytes at column value rest layout n few)

grays_are_read : (header : Header) (bytes : List ℕ) (samples more : List ℕ) (at column : ℕ) → header.layout ≡ Numbers → header.is_colour ≡ false → header.maximum ≤ GREATEST → InTurn IsNumber (drop at bytes) samples more → All (λ v. v ≤ header.maximum) samples → dots_at header bytes (length samples) at column ≡ Ok (map (gray header.maximum) samples)
grays_are_read header bytes [] more at column layout colour small there most = refl
grays_are_read header bytes (v ∷ samples) more at column layout colour small there most =
    let few : v ≤ header.maximum = first_of_all (λ v. v ≤ header.maximum) v samples most in
    let n = read_number bytes at v there.0 there.1.0 (omega arith) in
    first_dot header bytes (length samples) at column (sample (gray header.maximum v) n.end) (dot_is_read header bytes at column v there.0 layout colour n few)
    ∙ ap (after (gray header.maximum v ∷ []))
    (grays_are_read header bytes samples more n.end (column_after header.width column) layout colour small (rw (← n.rest) at there.1.1) (others_of_all (λ v. v ≤ header.maximum) v samples most))

-- What the header of a plain picture says, and where its samples are.
pub record IsReadHeader (bytes : List ℕ) (header : Header) (samples : List ℕ) : Type 0 where
  pub is : header_of bytes ≡ Ok header
  pub there : drop header.start bytes ≡ samples

abbrev number : ℕ → ℕ → ℕ → Number
number start end value = record { start = start; end = end; value = value }

fields_are_read : (bytes : List ℕ) (digit width height maximum : ℕ) (samples : List ℕ) (format : Format) (text : IsPlain bytes digit width height maximum samples) → format_numbered digit ≡ Some format → has_maximum format ≡ true → is_plain format ≡ true → (w : IsReadField bytes 2 width text.after_width) (h : IsReadField bytes w.end height text.after_height) (m : IsReadField bytes h.end maximum text.after_maximum) → (start : ℕ) × IsReadHeader bytes (raw_header format width height maximum start) text.after_maximum
fields_are_read bytes digit width height maximum samples format text named has not_raw w h m = (
  m.end,
  record {
    is = read_header bytes format (number w.start w.end width) (number h.start h.end height) (number m.start m.end maximum) m.end
        (read_format bytes digit text.after_magic format text.magic named)
        (read_size bytes 2 (number w.start w.end width) w.reads text.has_width.positive text.has_width.small)
        (read_size bytes w.end (number h.start h.end height) h.reads text.has_height.positive text.has_height.small)
        (read_maximum format bytes h.end (number m.start m.end maximum) has m.reads text.has_maximum.positive text.has_maximum.small)
        (rw not_raw);
    there = m.rest;
  },
)

after_height : (bytes : List ℕ) (digit width height maximum : ℕ) (samples : List ℕ) (format : Format) (text : IsPlain bytes digit width height maximum samples) → format_numbered digit ≡ Some format → has_maximum format ≡ true → is_plain format ≡ true → (w : IsReadField bytes 2 width text.after_width) → IsReadField bytes w.end height text.after_height → (start : ℕ) × IsReadHeader bytes (raw_header format width height maximum start) text.after_maximum
after_height bytes digit width height maximum samples format text named has not_raw w h =
    fields_are_read bytes digit width height maximum samples format text named has not_raw w h
    (field_after bytes w.end height text.after_height h maximum text.after_maximum text.has_maximum)

after_width : (bytes : List ℕ) (digit width height maximum : ℕ) (samples : List ℕ) (format : Format) (text : IsPlain bytes digit width height maximum samples) → format_numbered digit ≡ Some format → has_maximum format ≡ true → is_plain format ≡ true → IsReadField bytes 2 width text.after_width → (start : ℕ) × IsReadHeader bytes (raw_header format width height maximum start) text.after_maximum
after_width bytes digit width height maximum samples format text named has not_raw w =
    after_height bytes digit width height maximum samples format text named has not_raw w
    (field_after bytes 2 width text.after_width w height text.after_height text.has_height)

plain_header_is_read : (bytes : List ℕ) (digit width height maximum : ℕ) (samples : List ℕ) (format : Format) (text : IsPlain bytes digit width height maximum samples) → format_numbered digit ≡ Some format → has_maximum format ≡ true → is_plain format ≡ true → (start : ℕ) × IsReadHeader bytes (raw_header format width height maximum start) text.after_maximum
plain_header_is_read bytes digit width height maximum samples format text named has not_raw =
    after_width bytes digit width height maximum samples format text named has not_raw
    (first_field bytes digit text.after_magic width text.after_width text.magic text.has_width)

pub plain_gray_is_read : (bytes : List ℕ) (width height maximum : ℕ) (samples : List ℕ) → IsPlain bytes 0x32 width height maximum samples → length samples ≡ width * height → All (λ v. v ≤ maximum) samples → picture_of bytes ≡ Ok (grays_of width height (map (gray maximum) samples))
plain_gray_is_read bytes width height maximum samples text whole most =
    let read = plain_header_is_read bytes 0x32 width height maximum samples PlainGray text refl refl refl in
    let header = raw_header PlainGray width height maximum read.0 in
    whole_picture bytes header (map (gray maximum) samples) read.1.is
    (ap (λ n. dots_at header bytes n read.0 0) (sym whole)
    ∙ grays_are_read header bytes samples text.more read.0 0 refl refl text.has_maximum.small (rw read.1.there text.has_samples) most)

abbrev coloured : Header → Sample → Sample → Sample → Sample
coloured header red green blue =
    sample (gray (ALL_COLOURS * header.maximum) (luma red.value green.value blue.value)) blue.next

colour_is_read : (header : Header) (bytes : List ℕ) (at column : ℕ) (c : Colour) (after_red after_green after_blue : List ℕ) → header.layout ≡ Numbers → header.is_colour ≡ true → (r : IsReadNumber bytes at c.red after_red) (g : IsReadNumber bytes r.end c.green after_green) (b : IsReadNumber bytes g.end c.blue after_blue) → IsColour header.maximum c → dot_at header bytes at column ≡ Ok (sample (colour_gray header.maximum c) b.end)
unfolding dot_at
colour_is_read header bytes at column c after_red after_green after_blue layout colour r g b most =
    ap (λ t. if t then colour_at header bytes at column else gray_at header bytes at column) colour
    ∙ ap (λ outcome. outcome >>= λ (red : Sample). sample_at header bytes red.next column >>= λ (green : Sample). sample_at header bytes green.next column >>= λ (blue : Sample). Ok (coloured header red green blue))
    (sample_is_read header bytes at column c.red after_red layout r most.red)
    ∙ ap (λ outcome. outcome >>= λ (green : Sample). sample_at header bytes green.next column >>= λ (blue : Sample). Ok (coloured header (sample c.red r.end) green blue))
    (sample_is_read header bytes r.end column c.green after_green layout g most.green)
    ∙ ap (λ outcome. outcome >>= λ (blue : Sample). Ok (coloured header (sample c.red r.end) (sample c.green g.end) blue))
    (sample_is_read header bytes g.end column c.blue after_blue layout b most.blue)

-- The number after one that is read.
number_after : (bytes : List ℕ) (at value : ℕ) (rest : List ℕ) (before : IsReadNumber bytes at value rest) (next : ℕ) (after : List ℕ) → IsNumber rest next after → next ≤ GREATEST → IsReadNumber bytes before.end next after
number_after bytes at value rest before next after h few = read_number bytes before.end next after (rw (← before.rest) at h) few

colours_are_read : (header : Header) (bytes : List ℕ) (colours : List Colour) (more : List ℕ) (at column : ℕ) → header.layout ≡ Numbers → header.is_colour ≡ true → header.maximum ≤ GREATEST → InTurn IsNumber (drop at bytes) (flat_map three_samples colours) more → All (IsColour header.maximum) colours → dots_at header bytes (length colours) at column ≡ Ok (map (colour_gray header.maximum) colours)
colours_are_read header bytes [] more at column layout colour small there most = refl
colours_are_read header bytes (c ∷ colours) more at column layout colour small there most =
    let few : IsColour header.maximum c = first_of_all (IsColour header.maximum) c colours most in
    let green_text = there.1.1 in
    let blue_text = green_text.1.1 in
    let r = read_number bytes at c.red there.0 there.1.0 (omega (arith, few.red)) in
    let g = number_after bytes at c.red there.0 r c.green green_text.0 green_text.1.0 (omega (arith, few.green)) in
    let b = number_after bytes r.end c.green green_text.0 g c.blue blue_text.0 blue_text.1.0 (omega (arith, few.blue)) in
    first_dot header bytes (length colours) at column (sample (colour_gray header.maximum c) b.end)
    (colour_is_read header bytes at column c there.0 green_text.0 blue_text.0 layout colour r g b few)
    ∙ ap (after (colour_gray header.maximum c ∷ []))
    (colours_are_read header bytes colours more b.end (column_after header.width column) layout colour small (rw (← b.rest) at blue_text.1.1) (others_of_all (IsColour header.maximum) c colours most))

pub plain_colour_is_read : (bytes : List ℕ) (width height maximum : ℕ) (colours : List Colour) → IsPlain bytes 0x33 width height maximum (flat_map three_samples colours) → length colours ≡ width * height → All (IsColour maximum) colours → picture_of bytes ≡ Ok (grays_of width height (map (colour_gray maximum) colours))
plain_colour_is_read bytes width height maximum colours text whole most =
    let read = plain_header_is_read bytes 0x33 width height maximum (flat_map three_samples colours) PlainColour text refl refl refl in
    let header = raw_header PlainColour width height maximum read.0 in
    whole_picture bytes header (map (colour_gray maximum) colours) read.1.is
    (ap (λ n. dots_at header bytes n read.0 0) (sym whole)
    ∙ colours_are_read header bytes colours text.more read.0 0 refl refl text.has_maximum.small (rw read.1.there text.has_samples) most)
