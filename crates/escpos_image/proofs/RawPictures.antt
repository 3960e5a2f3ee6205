-- Raw pictures are read as the formats say.
use Rattle.std.proofs.Common.{◌≡◌, ℕ, ◌+◌, ◌-◌, ◌*◌, ◌/◌, ◌%◌, ◌<◌, ◌≤◌, eqb, ltb, true, false, List, [], ◌∷◌, ◌++◌, length, map, flat_map, drop, get_or, if◌then◌else◌, Some, Ok, refl, sym, ap, ◌∙◌, arith}
use Rattle.std.specs.List.{All}
use Rattle.std.proofs.lemmas.Bool.Decides.{nat_tests}
use Rattle.std.proofs.lemmas.List.{drop-drop, length-drop}
use Rattle.escpos_image.specs.declared.scan.Number.{Number}
use Rattle.escpos_image.specs.declared.header.Format.{Format}
use Rattle.escpos_image.specs.declared.header.Format.TheVariants.{RawGray, RawColour}
use Rattle.escpos_image.specs.declared.header.Layout.TheVariants.{Bytes, Pairs}
use Rattle.escpos_image.specs.declared.header.Header.{Header}
use Rattle.escpos_image.specs.declared.samples.TheConstants.{ALL_COLOURS}
use Rattle.escpos_image.specs.declared.samples.Sample.{Sample}
use Rattle.escpos_image.specs.Grays.{grays_of}
use Rattle.escpos_image.specs.Headers.{◌>>=◌, has_maximum, is_plain, is_colour, layout_of, format_numbered, header_of}
use Rattle.escpos_image.specs.Samples.{sample, gray, luma, byte_at, pair_at, laid_out_at, sample_at, gray_at, colour_at, dot_at}
use Rattle.escpos_image.specs.Pictures.{after, column_after, dots_at, dots_of, picture_of}
use Rattle.escpos_image.specs.Format.{IsRaw, Colour, IsColour, three_samples, two_bytes, colour_gray}
use Rattle.escpos_image.proofs.DotSteps.{first_dot}
use Rattle.escpos_image.proofs.Fields.{IsReadField, first_field, field_after, byte_there, first_of_all, others_of_all, read_size, read_maximum, read_start, read_header, read_format}

-- What a header says, and where the samples are.
pub record IsRead (bytes : List ℕ) (header : Header) (samples : List ℕ) : Type 0 where
  pub is : header_of bytes ≡ Ok header
  pub more : List ℕ
  pub there : drop header.start bytes ≡ samples ++ more

abbrev pub raw_header : Format → ℕ → ℕ → ℕ → ℕ → Header
raw_header format width height maximum start = record {
  layout = layout_of format maximum;
  is_colour = is_colour format;
  width = width;
  height = height;
  maximum = maximum;
  start = start;
}

abbrev number : ℕ → ℕ → ℕ → Number
number start end value = record { start = start; end = end; value = value }

-- The three fields of a header, read one after another.
fields_are_read : (bytes : List ℕ) (digit width height maximum : ℕ) (samples : List ℕ) (format : Format) (raw : IsRaw bytes digit width height maximum samples) → format_numbered digit ≡ Some format → has_maximum format ≡ true → is_plain format ≡ false → (w : IsReadField bytes 2 width raw.after_width) (h : IsReadField bytes w.end height raw.after_height) (m : IsReadField bytes h.end maximum (raw.blank ∷ (samples ++ raw.more))) → (start : ℕ) × IsRead bytes (raw_header format width height maximum start) samples
fields_are_read bytes digit width height maximum samples format raw named has not_plain w h m = (
  m.end + 1,
  record {
    is = read_header bytes format (number w.start w.end width) (number h.start h.end height) (number m.start m.end maximum) (m.end + 1)
        (read_format bytes digit raw.after_magic format raw.magic named)
        (read_size bytes 2 (number w.start w.end width) w.reads raw.has_width.positive raw.has_width.small)
        (read_size bytes w.end (number h.start h.end height) h.reads raw.has_height.positive raw.has_height.small)
        (read_maximum format bytes h.end (number m.start m.end maximum) has m.reads raw.has_maximum.positive raw.has_maximum.small)
        (read_start format bytes m.end raw.blank (samples ++ raw.more) not_plain m.rest raw.is_blank);
    more = raw.more;
    there = sym (drop-drop 1 m.end bytes) ∙ ap (drop 1) m.rest;
  },
)

after_height : (bytes : List ℕ) (digit width height maximum : ℕ) (samples : List ℕ) (format : Format) (raw : IsRaw bytes digit width height maximum samples) → format_numbered digit ≡ Some format → has_maximum format ≡ true → is_plain format ≡ false → (w : IsReadField bytes 2 width raw.after_width) → IsReadField bytes w.end height raw.after_height → (start : ℕ) × IsRead bytes (raw_header format width height maximum start) samples
after_height bytes digit width height maximum samples format raw named has not_plain w h =
    fields_are_read bytes digit width height maximum samples format raw named has not_plain w h
    (field_after bytes w.end height raw.after_height h maximum (raw.blank ∷ (samples ++ raw.more)) raw.has_maximum)

after_width : (bytes : List ℕ) (digit width height maximum : ℕ) (samples : List ℕ) (format : Format) (raw : IsRaw bytes digit width height maximum samples) → format_numbered digit ≡ Some format → has_maximum format ≡ true → is_plain format ≡ false → IsReadField bytes 2 width raw.after_width → (start : ℕ) × IsRead bytes (raw_header format width height maximum start) samples
after_width bytes digit width height maximum samples format raw named has not_plain w =
    after_height bytes digit width height maximum samples format raw named has not_plain w
    (field_after bytes 2 width raw.after_width w height raw.after_height raw.has_height)

raw_is_read : (bytes : List ℕ) (digit width height maximum : ℕ) (samples : List ℕ) (format : Format) → IsRaw bytes digit width height maximum samples → format_numbered digit ≡ Some format → has_maximum format ≡ true → is_plain format ≡ false → (start : ℕ) × IsRead bytes (raw_header format width height maximum start) samples
raw_is_read bytes digit width height maximum samples format raw named has not_plain =
    after_width bytes digit width height maximum samples format raw named has not_plain
    (first_field bytes digit raw.after_magic width raw.after_width raw.magic raw.has_width)

-- A byte that is a sample.
byte_is_read : (maximum : ℕ) (bytes : List ℕ) (at v : ℕ) (rest : List ℕ) → drop at bytes ≡ v ∷ rest → v ≤ maximum → byte_at maximum bytes at ≡ Ok (sample v (at + 1))
byte_is_read maximum bytes at v rest there most =
    let long : length bytes - at ≡ length (v ∷ rest) = sym (length-drop at bytes) ∙ ap length there in
    let inside : eqb at (length bytes) ≡ false = grind (arith, nat_tests) in
    let here : get_or bytes at 0 ≡ v = byte_there bytes at v rest there in
    let few : ltb maximum v ≡ false = grind (arith, nat_tests) in
    rw (inside, here, few)

sample_is_read : (header : Header) (bytes : List ℕ) (at column v : ℕ) (rest : List ℕ) → header.layout ≡ Bytes → drop at bytes ≡ v ∷ rest → v ≤ header.maximum → sample_at header bytes at column ≡ Ok (sample v (at + 1))
unfolding sample_at
sample_is_read header bytes at column v rest layout there most =
    ap (λ l. laid_out_at l header bytes at column) layout ∙ byte_is_read header.maximum bytes at v rest there most

abbrev grayed : Header → Sample → Sample
grayed header s = sample (gray header.maximum s.value) s.next

dot_is_read : (header : Header) (bytes : List ℕ) (at column v : ℕ) (rest : List ℕ) → header.layout ≡ Bytes → header.is_colour ≡ false → drop at bytes ≡ v ∷ rest → v ≤ header.maximum → dot_at header bytes at column ≡ Ok (sample (gray header.maximum v) (at + 1))
unfolding dot_at
dot_is_read header bytes at column v rest layout colour there most =
    ap (λ c. if c then colour_at header bytes at column else gray_at header bytes at column) colour
    ∙ ap (λ outcome. outcome >>= λ (s : Sample). Ok (grayed header s)) (sample_is_read header bytes at column v rest layout there most)

grays_are_read : (header : Header) (bytes : List ℕ) (samples more : List ℕ) (at column : ℕ) → header.layout ≡ Bytes → header.is_colour ≡ false → drop at bytes ≡ samples ++ more → All (λ v. v ≤ header.maximum) samples → dots_at header bytes (length samples) at column ≡ Ok (map (gray header.maximum) samples)
grays_are_read header bytes [] more at column layout colour there most = refl
grays_are_read header bytes (v ∷ samples) more at column layout colour there most =
    let v_is = first_of_all (λ v. v ≤ header.maximum) v samples most in
    let dot = sample (gray header.maximum v) (at + 1) in
    let rest : drop (at + 1) bytes ≡ samples ++ more = sym (drop-drop 1 at bytes) ∙ ap (drop 1) there in
    first_dot header bytes (length samples) at column dot (dot_is_read header bytes at column v (samples ++ more) layout colour there v_is)
    ∙ ap (after (dot.value ∷ [])) (grays_are_read header bytes samples more (at + 1) (column_after header.width column) layout colour rest (others_of_all (λ v. v ≤ header.maximum) v samples most))

pub whole_picture : (bytes : List ℕ) (header : Header) (grays : List ℕ) → header_of bytes ≡ Ok header → dots_of header bytes ≡ Ok grays → picture_of bytes ≡ Ok (grays_of header.width header.height grays)
unfolding picture_of
whole_picture bytes header grays is dots =
    ap (λ outcome. outcome >>= λ (h : Header). dots_of h bytes >>= λ (gs : List ℕ). Ok (grays_of h.width h.height gs)) is
    ∙ ap (λ outcome. outcome >>= λ (gs : List ℕ). Ok (grays_of header.width header.height gs)) dots

pub raw_gray_is_read : (bytes : List ℕ) (width height maximum : ℕ) (samples : List ℕ) → IsRaw bytes 0x35 width height maximum samples → maximum < 256 → length samples ≡ width * height → All (λ v. v ≤ maximum) samples → picture_of bytes ≡ Ok (grays_of width height (map (gray maximum) samples))
raw_gray_is_read bytes width height maximum samples raw small whole most =
    let read = raw_is_read bytes 0x35 width height maximum samples RawGray raw refl refl refl in
    let header = raw_header RawGray width height maximum read.0 in
    let few : ltb maximum 256 ≡ true = grind (arith, nat_tests) in
    let layout : header.layout ≡ Bytes = ap (λ b. if b then Bytes else Pairs) few in
    whole_picture bytes header (map (gray maximum) samples) read.1.is
    (ap (λ n. dots_at header bytes n read.0 0) (sym whole) ∙ grays_are_read header bytes samples read.1.more read.0 0 layout refl read.1.there most)

-- The gray value of a colour, and the place after it.
abbrev coloured : Header → Sample → Sample → Sample → Sample
coloured header red green blue =
    sample (gray (ALL_COLOURS * header.maximum) (luma red.value green.value blue.value)) blue.next

colour_is_read : (header : Header) (bytes : List ℕ) (at column : ℕ) (c : Colour) (rest : List ℕ) → header.layout ≡ Bytes → header.is_colour ≡ true → drop at bytes ≡ three_samples c ++ rest → IsColour header.maximum c → dot_at header bytes at column ≡ Ok (sample (colour_gray header.maximum c) (at + 1 + 1 + 1))
unfolding dot_at
colour_is_read header bytes at column c rest layout colour there most =
    let second : drop (at + 1) bytes ≡ c.green ∷ c.blue ∷ rest = sym (drop-drop 1 at bytes) ∙ ap (drop 1) there in
    let third : drop (at + 1 + 1) bytes ≡ c.blue ∷ rest = sym (drop-drop 1 (at + 1) bytes) ∙ ap (drop 1) second in
    let red = sample c.red (at + 1) in
    let green = sample c.green (at + 1 + 1) in
    let blue = sample c.blue (at + 1 + 1 + 1) in
    ap (λ b. if b then colour_at header bytes at column else gray_at header bytes at column) colour
    ∙ ap (λ outcome. outcome >>= λ (r : Sample). sample_at header bytes r.next column >>= λ (g : Sample). sample_at header bytes g.next column >>= λ (b : Sample). Ok (coloured header r g b))
    (sample_is_read header bytes at column c.red (c.green ∷ c.blue ∷ rest) layout there most.red)
    ∙ ap (λ outcome. outcome >>= λ (g : Sample). sample_at header bytes g.next column >>= λ (b : Sample). Ok (coloured header red g b))
    (sample_is_read header bytes (at + 1) column c.green (c.blue ∷ rest) layout second most.green)
    ∙ ap (λ outcome. outcome >>= λ (b : Sample). Ok (coloured header red green b))
    (sample_is_read header bytes (at + 1 + 1) column c.blue rest layout third most.blue)

colours_are_read : (header : Header) (bytes : List ℕ) (colours : List Colour) (more : List ℕ) (at column : ℕ) → header.layout ≡ Bytes → header.is_colour ≡ true → drop at bytes ≡ flat_map three_samples colours ++ more → All (IsColour header.maximum) colours → dots_at header bytes (length colours) at column ≡ Ok (map (colour_gray header.maximum) colours)
colours_are_read header bytes [] more at column layout colour there most = refl
colours_are_read header bytes (c ∷ colours) more at column layout colour there most =
    let c_is = first_of_all (IsColour header.maximum) c colours most in
    let next = at + 1 + 1 + 1 in
    let dot = sample (colour_gray header.maximum c) next in
    let rest : drop next bytes ≡ flat_map three_samples colours ++ more =
    sym (drop-drop 1 (at + 1 + 1) bytes) ∙ ap (drop 1) (sym (drop-drop 1 (at + 1) bytes) ∙ ap (drop 1) (sym (drop-drop 1 at bytes) ∙ ap (drop 1) there)) in
    first_dot header bytes (length colours) at column dot (colour_is_read header bytes at column c (flat_map three_samples colours ++ more) layout colour there c_is)
    ∙ ap (after (dot.value ∷ [])) (colours_are_read header bytes colours more next (column_after header.width column) layout colour rest (others_of_all (IsColour header.maximum) c colours most))

pub raw_colour_is_read : (bytes : List ℕ) (width height maximum : ℕ) (colours : List Colour) → IsRaw bytes 0x36 width height maximum (flat_map three_samples colours) → maximum < 256 → length colours ≡ width * height → All (IsColour maximum) colours → picture_of bytes ≡ Ok (grays_of width height (map (colour_gray maximum) colours))
raw_colour_is_read bytes width height maximum colours raw small whole most =
    let read = raw_is_read bytes 0x36 width height maximum (flat_map three_samples colours) RawColour raw refl refl refl in
    let header = raw_header RawColour width height maximum read.0 in
    let few : ltb maximum 256 ≡ true = grind (arith, nat_tests) in
    let layout : header.layout ≡ Bytes = ap (λ b. if b then Bytes else Pairs) few in
    whole_picture bytes header (map (colour_gray maximum) colours) read.1.is
    (ap (λ n. dots_at header bytes n read.0 0) (sym whole) ∙ colours_are_read header bytes colours read.1.more read.0 0 layout refl read.1.there most)

-- Two bytes that are a sample.
pair_is_read : (maximum : ℕ) (bytes : List ℕ) (at v : ℕ) (rest : List ℕ) → drop at bytes ≡ two_bytes v ++ rest → v ≤ maximum → pair_at maximum bytes at ≡ Ok (sample v (at + 2))
pair_is_read maximum bytes at v rest there most =
    let long : length bytes - at ≡ length (two_bytes v ++ rest) = sym (length-drop at bytes) ∙ ap length there in
    let inside : ltb (length bytes - at) 2 ≡ false = grind (arith, nat_tests) in
    let high : get_or bytes at 0 ≡ v / 256 = byte_there bytes at (v / 256) (v % 256 ∷ rest) there in
    let second : drop (at + 1) bytes ≡ v % 256 ∷ rest = sym (drop-drop 1 at bytes) ∙ ap (drop 1) there in
    let low : get_or bytes (at + 1) 0 ≡ v % 256 = byte_there bytes (at + 1) (v % 256) rest second in
    let joined : 256 * (v / 256) + v % 256 ≡ v = omega arith in
    let few : ltb maximum v ≡ false = grind (arith, nat_tests) in
    rw (inside, high, low, joined, few)

wide_dot_is_read : (header : Header) (bytes : List ℕ) (at column v : ℕ) (rest : List ℕ) → header.layout ≡ Pairs → header.is_colour ≡ false → drop at bytes ≡ two_bytes v ++ rest → v ≤ header.maximum → dot_at header bytes at column ≡ Ok (sample (gray header.maximum v) (at + 2))
unfolding dot_at sample_at
wide_dot_is_read header bytes at column v rest layout colour there most =
    ap (λ c. if c then colour_at header bytes at column else gray_at header bytes at column) colour
    ∙ ap (λ outcome. outcome >>= λ (s : Sample). Ok (grayed header s))
    (ap (λ l. laid_out_at l header bytes at column) layout ∙ pair_is_read header.maximum bytes at v rest there most)

pairs_are_read : (header : Header) (bytes : List ℕ) (samples more : List ℕ) (at column : ℕ) → header.layout ≡ Pairs → header.is_colour ≡ false → drop at bytes ≡ flat_map two_bytes samples ++ more → All (λ v. v ≤ header.maximum) samples → dots_at header bytes (length samples) at column ≡ Ok (map (gray header.maximum) samples)
pairs_are_read header bytes [] more at column layout colour there most = refl
pairs_are_read header bytes (v ∷ samples) more at column layout colour there most =
    let v_is = first_of_all (λ v. v ≤ header.maximum) v samples most in
    let dot = sample (gray header.maximum v) (at + 2) in
    let rest : drop (at + 2) bytes ≡ flat_map two_bytes samples ++ more = sym (drop-drop 2 at bytes) ∙ ap (drop 2) there in
    first_dot header bytes (length samples) at column dot (wide_dot_is_read header bytes at column v (flat_map two_bytes samples ++ more) layout colour there v_is)
    ∙ ap (after (dot.value ∷ [])) (pairs_are_read header bytes samples more (at + 2) (column_after header.width column) layout colour rest (others_of_all (λ v. v ≤ header.maximum) v samples most))

pub wide_gray_is_read : (bytes : List ℕ) (width height maximum : ℕ) (samples : List ℕ) → IsRaw bytes 0x35 width height maximum (flat_map two_bytes samples) → 256 ≤ maximum → length samples ≡ width * height → All (λ v. v ≤ maximum) samples → picture_of bytes ≡ Ok (grays_of width height (map (gray maximum) samples))
wide_gray_is_read bytes width height maximum samples raw wide whole most =
    let read = raw_is_read bytes 0x35 width height maximum (flat_map two_bytes samples) RawGray raw refl refl refl in
    let header = raw_header RawGray width height maximum read.0 in
    let many : ltb maximum 256 ≡ false = grind (arith, nat_tests) in
    let layout : header.layout ≡ Pairs = ap (λ b. if b then Bytes else Pairs) many in
    whole_picture bytes header (map (gray maximum) samples) read.1.is
    (ap (λ n. dots_at header bytes n read.0 0) (sym whole) ∙ pairs_are_read header bytes samples read.1.more read.0 0 layout refl read.1.there most)
