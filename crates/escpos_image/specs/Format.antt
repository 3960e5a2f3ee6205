-- What the formats PBM, PGM and PPM say, by their parts: these definitions are no reader, and leave gaps and
-- digits open, as the formats do.
use Rattle.std.specs.Prelude.{◌≡◌, ℕ, ◌*◌, ◌/◌, ◌%◌, ◌<◌, ◌≤◌, Bool, true, false, List, [], ◌∷◌, ◌++◌, length, All, if◌then◌else◌}
use Rattle.std.specs.List.{prefix_len, AllPass}
use Rattle.escpos_image.specs.declared.header.TheConstants.{GREATEST}
use Rattle.escpos_image.specs.Scan.{is_blank, ends_line, is_digit, decimal_value}
use Rattle.escpos_image.specs.declared.samples.TheConstants.{WHITE, ALL_COLOURS}
use Rattle.escpos_image.specs.Samples.{gray, luma}

-- Blanks, and comments that each go from # to the end of a line.
pub data IsGap : List ℕ → Type 0 where
  no_gap : IsGap []
  blank : (b : ℕ) (more : List ℕ) → is_blank b ≡ true → IsGap more → IsGap (b ∷ more)
  comment : (text : List ℕ) (end : ℕ) (more : List ℕ) → All (λ c. ends_line c ≡ false) text → ends_line end ≡ true → IsGap more → IsGap (0x23 ∷ (text ++ end ∷ more))

-- The text begins with a gap that isn't empty and a number in decimal, and this follows, no digit first.
pub record IsNumber (text : List ℕ) (value : ℕ) (after : List ℕ) : Type 0 where
  pub gap : List ℕ
  pub digits : List ℕ
  pub whole : text ≡ gap ++ (digits ++ after)
  pub is_gap : IsGap gap
  pub some_gap : 0 < length gap
  pub are_digits : AllPass is_digit digits
  pub some_digits : 0 < length digits
  pub is_value : decimal_value digits ≡ value
  pub ended : prefix_len is_digit after ≡ 0

-- The same of a number that a width, a height or a greatest value may be.
pub record IsField (text : List ℕ) (value : ℕ) (after : List ℕ) : Type 0 where
  pub number : IsNumber text value after
  pub positive : 1 ≤ value
  pub small : value ≤ GREATEST

-- The text begins with a gap, which may be empty, and the digit of a black dot or of a white one, and this follows.
pub record IsDigit (text : List ℕ) (black : Bool) (after : List ℕ) : Type 0 where
  pub gap : List ℕ
  pub whole : text ≡ gap ++ (if black then 0x31 else 0x30) ∷ after
  pub is_gap : IsGap gap

-- The text begins with all of these, one after another, and this follows.
abbrev pub InTurn : {X : Type 0} → (List ℕ → X → List ℕ → Type 0) → List ℕ → List X → List ℕ → Type 0
InTurn Begins text [] rest = text ≡ rest
InTurn Begins text (x ∷ xs) rest = (after : List ℕ) × (Begins text x after × InTurn Begins after xs rest)

-- A raw PGM or PPM picture: P and this digit, width, height and greatest value, one blank, and then the bytes of its samples, row by
-- row. More may follow.
pub record IsRaw (bytes : List ℕ) (digit width height maximum : ℕ) (samples : List ℕ) : Type 0 where
  pub after_magic : List ℕ
  pub after_width : List ℕ
  pub after_height : List ℕ
  pub blank : ℕ
  pub more : List ℕ
  pub magic : bytes ≡ 0x50 ∷ digit ∷ after_magic
  pub has_width : IsField after_magic width after_width
  pub has_height : IsField after_width height after_height
  pub has_maximum : IsField after_height maximum (blank ∷ (samples ++ more))
  pub is_blank : is_blank blank ≡ true

-- A raw PBM picture: P4, width and height, one blank, and then the bytes of its rows. More may follow.
pub record IsRawBitmap (bytes : List ℕ) (width height : ℕ) (rows : List ℕ) : Type 0 where
  pub after_magic : List ℕ
  pub after_width : List ℕ
  pub blank : ℕ
  pub more : List ℕ
  pub magic : bytes ≡ 0x50 ∷ 0x34 ∷ after_magic
  pub has_width : IsField after_magic width after_width
  pub has_height : IsField after_width height (blank ∷ (rows ++ more))
  pub is_blank : is_blank blank ≡ true

-- A plain PGM or PPM picture: P and this digit, width, height and greatest value, and then its samples as numbers, row by row. More may
-- follow.
pub record IsPlain (bytes : List ℕ) (digit width height maximum : ℕ) (samples : List ℕ) : Type 0 where
  pub after_magic : List ℕ
  pub after_width : List ℕ
  pub after_height : List ℕ
  pub after_maximum : List ℕ
  pub more : List ℕ
  pub magic : bytes ≡ 0x50 ∷ digit ∷ after_magic
  pub has_width : IsField after_magic width after_width
  pub has_height : IsField after_width height after_height
  pub has_maximum : IsField after_height maximum after_maximum
  pub has_samples : InTurn IsNumber after_maximum samples more

-- A plain PBM picture: P1, width and height, and then a digit for each dot, row by row, 1 for black. More may follow.
pub record IsPlainBitmap (bytes : List ℕ) (width height : ℕ) (dots : List Bool) : Type 0 where
  pub after_magic : List ℕ
  pub after_width : List ℕ
  pub after_height : List ℕ
  pub more : List ℕ
  pub magic : bytes ≡ 0x50 ∷ 0x31 ∷ after_magic
  pub has_width : IsField after_magic width after_width
  pub has_height : IsField after_width height after_height
  pub has_dots : InTurn IsDigit after_height dots more

-- Red, green and blue of a dot.
pub record Colour : Type 0 where
  pub red : ℕ
  pub green : ℕ
  pub blue : ℕ

abbrev pub three_samples : Colour → List ℕ
three_samples c = c.red ∷ c.green ∷ c.blue ∷ []

-- A sample of two bytes, the more significant first.
abbrev pub two_bytes : ℕ → List ℕ
two_bytes n = n / 256 ∷ n % 256 ∷ []

-- No colour is above the greatest value.
pub record IsColour (maximum : ℕ) (c : Colour) : Type 0 where
  pub red : c.red ≤ maximum
  pub green : c.green ≤ maximum
  pub blue : c.blue ≤ maximum

-- The gray value of a colour.
abbrev pub colour_gray : ℕ → Colour → ℕ
colour_gray maximum c = gray (ALL_COLOURS * maximum) (luma c.red c.green c.blue)

-- The gray values of black and white dots.
abbrev pub dot_gray : Bool → ℕ
dot_gray black = if black then 0 else WHITE
