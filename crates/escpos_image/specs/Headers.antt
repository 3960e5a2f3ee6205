-- The header of a picture.
use Rattle.std.specs.Prelude.{ℕ, ◌+◌, ◌≤◌, ◌==◌, ◌&&◌, ◌||◌, nat_le, nat_lt, Bool, true, false, List, length, slice_index, Option, Some, None, Result, Ok, Err, if◌then◌else◌}
use Rattle.escpos_image.specs.declared.fault.ImageFault.{ImageFault}
use Rattle.escpos_image.specs.declared.fault.ImageFault.TheVariants.{NotPicture, BadHeader, BadSize, BadMaximum, CutShort}
use Rattle.escpos_image.specs.declared.scan.Number.{Number}
use Rattle.escpos_image.specs.declared.header.TheConstants.{GREATEST}
use Rattle.escpos_image.specs.declared.header.Format.{Format}
use Rattle.escpos_image.specs.declared.header.Format.TheVariants.{PlainBitmap, PlainGray, PlainColour, RawBitmap, RawGray, RawColour}
use Rattle.escpos_image.specs.declared.header.Layout.{Layout}
use Rattle.escpos_image.specs.declared.header.Layout.TheVariants.{Digits, Numbers, Bits, Bytes, Pairs}
use Rattle.escpos_image.specs.declared.header.Header.{Header}
use Rattle.escpos_image.specs.Scan.{is_blank, number_at}

-- One step of several, each of which may be refused.
infixl 10 ◌>>=◌
abbrev pub ◌>>=◌ : {A B : Type 0} → Result A ImageFault → (A → Result B ImageFault) → Result B ImageFault
Ok x >>= f = f x
Err fault >>= f = Err fault

abbrev pub format_numbered : ℕ → Option Format
format_numbered digit =
    if digit == 0x31 then Some PlainBitmap
    else if digit == 0x32 then Some PlainGray
    else if digit == 0x33 then Some PlainColour
    else if digit == 0x34 then Some RawBitmap
    else if digit == 0x35 then Some RawGray
    else if digit == 0x36 then Some RawColour
    else None

-- The first two bytes are P and the format's digit.
abbrev pub format_of : List ℕ → Option Format
format_of bytes =
    if nat_le 2 (length bytes) && slice_index bytes 0 == 0x50 then format_numbered (slice_index bytes 1) else None

-- Samples of one byte each reach to 255.
abbrev pub layout_of : Format → ℕ → Layout
layout_of PlainBitmap maximum = Digits
layout_of PlainGray maximum = Numbers
layout_of PlainColour maximum = Numbers
layout_of RawBitmap maximum = Bits
layout_of RawGray maximum = if nat_lt maximum 256 then Bytes else Pairs
layout_of RawColour maximum = if nat_lt maximum 256 then Bytes else Pairs

abbrev pub is_colour : Format → Bool
is_colour PlainColour = true
is_colour RawColour = true
is_colour PlainBitmap = false
is_colour PlainGray = false
is_colour RawBitmap = false
is_colour RawGray = false

abbrev pub has_maximum : Format → Bool
has_maximum PlainBitmap = false
has_maximum RawBitmap = false
has_maximum PlainGray = true
has_maximum PlainColour = true
has_maximum RawGray = true
has_maximum RawColour = true

abbrev pub is_plain : Format → Bool
is_plain PlainBitmap = true
is_plain PlainGray = true
is_plain PlainColour = true
is_plain RawBitmap = false
is_plain RawGray = false
is_plain RawColour = false

-- The number of a header after a gap that isn't empty. `last` is how many bytes there are.
abbrev pub field : ℕ → ℕ → Number → Result Number ImageFault
field last at number =
    if number.start == last then Err (CutShort number.start)
    else if number.start == at || number.end == number.start then Err (BadHeader number.start)
    else Ok number

abbrev pub field_at : List ℕ → ℕ → Result Number ImageFault
field_at bytes at = field (length bytes) at (number_at bytes at)

abbrev pub is_in_range : ℕ → Bool
is_in_range n = nat_le 1 n && nat_le n GREATEST

abbrev pub size_at : List ℕ → ℕ → Result Number ImageFault
size_at bytes at =
    field_at bytes at >>= λ number. if is_in_range number.value then Ok number else Err (BadSize number.start)

-- Bitmaps name no greatest value: it is 1.
abbrev pub maximum_at : Format → List ℕ → ℕ → Result Number ImageFault
maximum_at format bytes at =
    if has_maximum format then
    (field_at bytes at >>= λ number. if is_in_range number.value then Ok number else Err (BadMaximum number.start))
    else Ok (record { start = at; end = at; value = 1 })

-- One blank comes before samples that aren't text.
abbrev pub samples_start : Format → List ℕ → ℕ → Result ℕ ImageFault
samples_start format bytes at =
    if is_plain format then Ok at
    else if at == length bytes then Err (CutShort at)
    else if is_blank (slice_index bytes at) then Ok (at + 1)
    else Err (BadHeader at)

abbrev pub header : Format → Number → Number → Number → ℕ → Header
header format width height maximum start = record {
  layout = layout_of format maximum.value;
  is_colour = is_colour format;
  width = width.value;
  height = height.value;
  maximum = maximum.value;
  start = start;
}

-- Width, height, the greatest value where the format has it, and the beginning of the samples.
abbrev pub header_in : List ℕ → Format → Result Header ImageFault
header_in bytes format = do
  width ← size_at bytes 2
  height ← size_at bytes width.end
  maximum ← maximum_at format bytes height.end
  start ← samples_start format bytes maximum.end
  Ok (header format width height maximum start)

abbrev pub header_if : List ℕ → Option Format → Result Header ImageFault
header_if bytes None = Err NotPicture
header_if bytes (Some format) = header_in bytes format

-- The header of a picture with these bytes, or the first fault of it.
abbrev pub header_of : List ℕ → Result Header ImageFault
header_of bytes = header_if bytes (format_of bytes)

-- A number that a size or a greatest value may be, within the bytes.
pub record IsField (bytes : List ℕ) (number : Number) : Type 0 where
  pub positive : 1 ≤ number.value
  pub small : number.value ≤ GREATEST
  pub within : number.end ≤ length bytes

pub record IsHeader (header : Header) : Type 0 where
  pub wide : 1 ≤ header.width
  pub not_too_wide : header.width ≤ GREATEST
  pub high : 1 ≤ header.height
  pub not_too_high : header.height ≤ GREATEST
  pub positive : 1 ≤ header.maximum
  pub small : header.maximum ≤ GREATEST
