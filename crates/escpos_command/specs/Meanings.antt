-- What the bytes of parameters mean.
use Rattle.std.specs.Prelude.{ℕ, ◌==◌, ◌+◌, ◌-◌, ◌/◌, ◌%◌, ◌^◌, ◌&&◌, ◌||◌, not, Bool, if◌then◌else◌}
use Rattle.escpos_command.specs.declared.parameter.choices.FontFace.{FontFace}
use Rattle.escpos_command.specs.declared.parameter.choices.FontFace.TheVariants.{A, B}
use Rattle.escpos_command.specs.declared.parameter.choices.Alignment.{Alignment}
use Rattle.escpos_command.specs.declared.parameter.choices.Alignment.TheVariants.{Left, Center, Right}
use Rattle.escpos_command.specs.declared.parameter.choices.HriPosition.{HriPosition}
use Rattle.escpos_command.specs.declared.parameter.choices.HriPosition.TheVariants.{Nowhere, Above, Below, Both}
use Rattle.escpos_command.specs.declared.parameter.choices.Correction.{Correction}
use Rattle.escpos_command.specs.declared.parameter.choices.Correction.TheVariants as correction
use Rattle.escpos_command.specs.declared.parameter.choices.Scale.{Scale}
use Rattle.escpos_command.specs.declared.parameter.choices.Scale.TheVariants as scale

-- Bit k of n is set, counted from 0 for the lowest.
abbrev pub has_bit : ℕ → ℕ → Bool
has_bit n k = n / 2 ^ k % 2 == 1

-- A choice is sent as a number from 0 or as its digit, 48 being the digit 0.
abbrev pub choice : ℕ → ℕ
choice n = n % 48

abbrev pub face_of : ℕ → FontFace
face_of c = if c == 0 then A else B

abbrev pub alignment_of : ℕ → Alignment
alignment_of c = if c == 0 then Left else if c == 1 then Center else Right

abbrev pub hri_position_of : ℕ → HriPosition
hri_position_of c = if c == 0 then Nowhere else if c == 1 then Above else if c == 2 then Below else Both

-- How each dot of a raster is printed.
abbrev pub scale_of : ℕ → Scale
scale_of c = if c == 0 then scale.Normal else if c == 1 then scale.Wide else if c == 2 then scale.Tall else scale.Both

-- The same by the factors of graphics, across and down.
abbrev pub scale_by : ℕ → ℕ → Scale
scale_by across down =
    if across == 1 && down == 1 then scale.Normal else if down == 1 then scale.Wide else if across == 1 then scale.Tall else scale.Both

-- ESC ! has the font in bit 0.
abbrev pub face_of_mode : ℕ → FontFace
face_of_mode n = if has_bit n 0 then B else A

-- A bit that doubles.
abbrev pub magnified : Bool → ℕ
magnified b = if b then 2 else 1

-- ESC ! underlines by one dot.
abbrev pub underline_of_mode : ℕ → ℕ
underline_of_mode n = if has_bit n 7 then 1 else 0

-- GS ! has the width in bits 4 to 6 and the height in bits 0 to 2, each less one.
abbrev pub size_width : ℕ → ℕ
size_width n = n / 16 % 8 + 1

abbrev pub size_height : ℕ → ℕ
size_height n = n % 8 + 1

-- A cut leaves one point where its mode is 1, 49, 66, 98 or 104.
abbrev pub leaves_a_point : ℕ → Bool
leaves_a_point m = m == 1 || m == 49 || m == 66 || m == 98 || m == 104

-- GS a lets the printer tell its condition unasked, by any bit.
abbrev pub reports : ℕ → Bool
reports n = not (n == 0)

-- The setting that tells each change but the drawer's: bits 1, 2 and 3.
abbrev pub all_but_drawer : ℕ
all_but_drawer = 0x0E

-- The model of a QR code is sent as its digit.
abbrev pub model_number : ℕ → ℕ
model_number n = n - 48

abbrev pub correction_of : ℕ → Correction
correction_of c = if c == 0 then correction.L else if c == 1 then correction.M else if c == 2 then correction.Q else correction.H
