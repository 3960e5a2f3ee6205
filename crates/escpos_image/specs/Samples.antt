-- The samples of a picture and the dots that they make, each with the place after it.
use Rattle.std.specs.Prelude.{ℕ, ◌+◌, ◌-◌, ◌*◌, ◌/◌, ◌%◌, ◌^◌, ◌==◌, ◌||◌, nat_le, nat_lt, List, length, slice_index, Result, Ok, Err, if◌then◌else◌}
use Rattle.escpos_image.specs.declared.fault.ImageFault.{ImageFault}
use Rattle.escpos_image.specs.declared.fault.ImageFault.TheVariants.{BadSample, CutShort}
use Rattle.escpos_image.specs.declared.scan.Number.{Number}
use Rattle.escpos_image.specs.declared.header.Layout.{Layout}
use Rattle.escpos_image.specs.declared.header.Layout.TheVariants.{Digits, Numbers, Bits, Bytes, Pairs}
use Rattle.escpos_image.specs.declared.header.Header.{Header}
use Rattle.escpos_image.specs.declared.samples.TheConstants.{WHITE, RED, GREEN, BLUE, ALL_COLOURS}
use Rattle.escpos_image.specs.declared.samples.Sample.{Sample}
use Rattle.escpos_image.specs.Scan.{gap_end, number_at}
use Rattle.escpos_image.specs.Headers.{◌>>=◌}

abbrev pub sample : ℕ → ℕ → Sample
sample value next = record { value = value; next = next }

-- A value, unless it is above the greatest one.
abbrev pub checked : ℕ → ℕ → ℕ → ℕ → Result Sample ImageFault
checked maximum at value next = if nat_lt maximum value then Err (BadSample at) else Ok (sample value next)

-- A digit of a plain bitmap: 1 is black, the least light.
abbrev pub digit_from : List ℕ → ℕ → Result Sample ImageFault
digit_from bytes start =
    if start == length bytes then Err (CutShort start)
    else if slice_index bytes start == 0x30 then Ok (sample 1 (start + 1))
    else if slice_index bytes start == 0x31 then Ok (sample 0 (start + 1))
    else Err (BadSample start)

abbrev pub digit_at : List ℕ → ℕ → Result Sample ImageFault
digit_at bytes at = digit_from bytes (gap_end bytes at)

-- A number after a gap that isn't empty. `last` is how many bytes there are.
abbrev pub plain : ℕ → ℕ → ℕ → Number → Result Sample ImageFault
plain maximum last at number =
    if number.start == last then Err (CutShort number.start)
    else if number.start == at || number.end == number.start then Err (BadSample number.start)
    else checked maximum number.start number.value number.end

abbrev pub plain_at : ℕ → List ℕ → ℕ → Result Sample ImageFault
plain_at maximum bytes at = plain maximum (length bytes) at (number_at bytes at)

-- The bit of a dot in this column, in its byte: the highest of a byte first.
abbrev pub bit_of : ℕ → ℕ → ℕ
bit_of byte column = byte / 2 ^ (7 - column % 8) % 2

-- A byte ends with its lowest bit, or with its row.
abbrev pub after_bit : ℕ → ℕ → ℕ → ℕ
after_bit width at column = if column % 8 == 7 || nat_le (width - 1) column then at + 1 else at

-- A bit of a raw bitmap: 1 is black, the least light.
abbrev pub bit_at : ℕ → List ℕ → ℕ → ℕ → Result Sample ImageFault
bit_at width bytes at column =
    if at == length bytes then Err (CutShort at)
    else Ok (sample (1 - bit_of (slice_index bytes at) column) (after_bit width at column))

abbrev pub byte_at : ℕ → List ℕ → ℕ → Result Sample ImageFault
byte_at maximum bytes at =
    if at == length bytes then Err (CutShort at) else checked maximum at (slice_index bytes at) (at + 1)

-- Two bytes, the more significant first.
abbrev pub pair_at : ℕ → List ℕ → ℕ → Result Sample ImageFault
pair_at maximum bytes at =
    if nat_lt (length bytes - at) 2 then Err (CutShort (length bytes))
    else checked maximum at (256 * slice_index bytes at + slice_index bytes (at + 1)) (at + 2)

abbrev pub laid_out_at : Layout → Header → List ℕ → ℕ → ℕ → Result Sample ImageFault
laid_out_at Digits header bytes at column = digit_at bytes at
laid_out_at Numbers header bytes at column = plain_at header.maximum bytes at
laid_out_at Bits header bytes at column = bit_at header.width bytes at column
laid_out_at Bytes header bytes at column = byte_at header.maximum bytes at
laid_out_at Pairs header bytes at column = pair_at header.maximum bytes at

-- The sample at this place, of a dot in this column.
unfoldable pub sample_at : Header → List ℕ → ℕ → ℕ → Result Sample ImageFault
sample_at header bytes at column = laid_out_at header.layout header bytes at column

-- How light three samples are together, by the weights of Rec. 601.
abbrev pub luma : ℕ → ℕ → ℕ → ℕ
luma red green blue = RED * red + GREEN * green + BLUE * blue

-- The gray value of so much light, where `most` is white: 0 is black and 255 is white.
abbrev pub gray : ℕ → ℕ → ℕ
gray most light = WHITE * light / most

-- A dot of one sample.
abbrev pub gray_at : Header → List ℕ → ℕ → ℕ → Result Sample ImageFault
gray_at header bytes at column =
    sample_at header bytes at column >>= λ s. Ok (sample (gray header.maximum s.value) s.next)

-- A dot of three samples: red, green and blue.
abbrev pub colour_at : Header → List ℕ → ℕ → ℕ → Result Sample ImageFault
colour_at header bytes at column = do
  red ← sample_at header bytes at column
  green ← sample_at header bytes red.next column
  blue ← sample_at header bytes green.next column
  Ok (sample (gray (ALL_COLOURS * header.maximum) (luma red.value green.value blue.value)) blue.next)

-- The gray value of the dot at this place, which stands in this column.
unfoldable pub dot_at : Header → List ℕ → ℕ → ℕ → Result Sample ImageFault
dot_at header bytes at column =
    if header.is_colour then colour_at header bytes at column else gray_at header bytes at column
