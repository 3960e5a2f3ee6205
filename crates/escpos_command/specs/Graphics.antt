-- Graphics: pictures that are stored and printed later. Which sizes they may have, and which lengths are sent before them.
-- (Reference: GS ( L and GS 8 L, functions 112 and 50.)
use Rattle.std.specs.Prelude.{ℕ, ◌≡◌, ◌==◌, ◌+◌, ◌*◌, ◌/◌, ◌%◌, ◌&&◌, ◌||◌, nat_le, nat_eq, Bool, false, IsTrue, List, [], ◌∷◌, length}
use Rattle.std.specs.List.{list_all}
use Rattle.std.specs.Cmp.{IsEquivalence}
use Rattle.std.specs.Cmp.Lexicographic.{pointwise, nat_list_eq_equiv}
use Rattle.std.proofs.lemmas.Cmp.{and_equiv, on_equiv, nat_eq_equiv}
use Rattle.escpos_command.specs.declared.bytes.TheConstants.{GS}
use Rattle.escpos_command.specs.declared.graphics.GraphicsFault.{GraphicsFault}
use Rattle.escpos_command.specs.declared.graphics.GraphicsFault.TheVariants as fault
use Rattle.escpos_command.specs.declared.graphics.GraphicsForm.{GraphicsForm}
use Rattle.escpos_command.specs.declared.graphics.GraphicsForm.TheVariants.{Short, Long}
use Rattle.escpos_command.specs.declared.graphics.GraphicsHead.{GraphicsHead}
use Rattle.escpos_command.specs.Parameters.{is_byte, is_graphics_factor}
use Rattle.escpos_command.specs.Rasters.{is_height}

-- The model of graphics: what stands before their dots, and the dots, row by row from the top, eight to a byte.
pub record StoredPicture : Type 0 where
  pub head : GraphicsHead
  pub dots : List ℕ

abbrev pub stored_picture : GraphicsHead → List ℕ → StoredPicture
stored_picture head dots = record { head = head; dots = dots }

-- ## Sizes

-- The most dots in a row.
abbrev pub widest_graphics : ℕ
widest_graphics = 1024

abbrev pub is_graphics_width : ℕ → Bool
is_graphics_width x = nat_le 1 x && nat_le x widest_graphics

-- The bytes of a row of x dots. The last is printed whole, also where the row ends within it.
abbrev pub row_bytes : ℕ → ℕ
row_bytes x = (x + 7) / 8

-- The bytes of dots that the size says.
abbrev pub dot_bytes : GraphicsHead → ℕ
dot_bytes head = row_bytes head.width * head.height

-- Only graphics with as many bytes of dots as their size says are stored. The length says how many are sent.
abbrev pub has_its_dots : StoredPicture → Bool
has_its_dots p = length p.dots == dot_bytes p.head

-- ## Lengths

-- The length counts this many bytes and the dots.
abbrev pub counted_before : ℕ
counted_before = 10

-- The short form has a length of two bytes, the long one of four, the low one first. The most that the long one says is the length of
-- the largest picture.
abbrev pub fits_form : GraphicsForm → ℕ → Bool
fits_form Short n = nat_le n 65535
fits_form Long n = nat_le n 524170

abbrev pub length_bytes : GraphicsForm → ℕ → List ℕ
length_bytes Short n = n % 256 ∷ n / 256 ∷ []
length_bytes Long n = n % 256 ∷ n / 256 % 256 ∷ n / 65536 % 256 ∷ n / 16777216 ∷ []

-- A length that counts a byte of dots.
abbrev pub counts_dots : ℕ → Bool
counts_dots n = nat_le (counted_before + 1) n

-- A length of the short form: 2 for a print, and otherwise one that counts dots.
abbrev pub is_graphics_length : ℕ → Bool
is_graphics_length n = n == 2 || counts_dots n

-- One of the long form, and its first three bytes; the last is 0.
abbrev pub is_long_length : ℕ → Bool
is_long_length n = counts_dots n && fits_form Long n

abbrev pub long_length : ℕ → ℕ → ℕ → ℕ
long_length first second third = first + 256 * second + 65536 * third

-- The letters of each form.
abbrev pub graphics_letters : GraphicsForm → List ℕ
graphics_letters Short = GS ∷ 0x28 ∷ 0x4C ∷ []
graphics_letters Long = GS ∷ 0x38 ∷ 0x4C ∷ []

-- ## Graphics

abbrev pub has_factors : StoredPicture → Bool
has_factors p = is_graphics_factor p.head.across && is_graphics_factor p.head.down

-- There are dots, and no more than the form counts.
abbrev pub has_length : StoredPicture → Bool
has_length p = nat_le 1 (length p.dots) && fits_form p.head.form (length p.dots + counted_before)

-- Factors of the table, a size in range, and a number of dots in range, whatever the size says.
abbrev pub is_graphics : StoredPicture → Bool
is_graphics p = has_factors p && is_graphics_width p.head.width && is_height p.head.height && has_length p && list_all is_byte p.dots

-- The first reason for which these aren't graphics.
abbrev pub IsGraphicsFault : GraphicsFault → StoredPicture → Type 0
IsGraphicsFault fault.Factor p = has_factors p ≡ false
IsGraphicsFault fault.Width p = IsTrue (has_factors p) × (is_graphics_width p.head.width ≡ false)
IsGraphicsFault fault.Height p = IsTrue (has_factors p) × IsTrue (is_graphics_width p.head.width) × (is_height p.head.height ≡ false)
IsGraphicsFault fault.Length p =
    IsTrue (has_factors p) × IsTrue (is_graphics_width p.head.width) × IsTrue (is_height p.head.height) × (has_length p ≡ false)

-- ## Equality

abbrev pub form_number : GraphicsForm → ℕ
form_number Short = 0
form_number Long = 1

-- Graphics with the same form, factors, size and dots are the same.
abbrev pub same_graphics : StoredPicture → StoredPicture → Bool
same_graphics a b =
    nat_eq (form_number a.head.form) (form_number b.head.form) && nat_eq a.head.across b.head.across && nat_eq a.head.down b.head.down
    && nat_eq a.head.width b.head.width && nat_eq a.head.height b.head.height && pointwise nat_eq a.dots b.dots

pub same_graphics_equiv : IsEquivalence same_graphics
same_graphics_equiv =
    and_equiv
    (and_equiv
    (and_equiv
    (and_equiv
    (and_equiv (on_equiv (λ (p : StoredPicture). form_number p.head.form) nat_eq_equiv) (on_equiv (λ (p : StoredPicture). p.head.across) nat_eq_equiv))
    (on_equiv (λ (p : StoredPicture). p.head.down) nat_eq_equiv))
    (on_equiv (λ (p : StoredPicture). p.head.width) nat_eq_equiv))
    (on_equiv (λ (p : StoredPicture). p.head.height) nat_eq_equiv))
    (on_equiv (λ (p : StoredPicture). p.dots) nat_list_eq_equiv)
